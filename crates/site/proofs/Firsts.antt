-- A mask's sends in number, and the first j of them: the mask of the first j sites sends just those.
-- Rests on ByMask and its laws. Assumes nothing.
use Prim.Native.Nat.{ℕ, zero, suc, ◌+◌, ◌^◌, ◌<◌, ◌≤◌, min}
use mathlib.Core.Path.{◌≡◌, refl, sym, ap, ◌∙◌}
use mathlib.Core.Logic.{inl, inr}
use mathlib.Core.Bool.{Bool, true, false, cond, or-false}
use mathlib.Core.List.{List, [], ◌∷◌, ◌++◌, append-nil}
use native.Mathlib.Omega.{arith}
use lib.Dec.{leb}
use lib.ListN.{length, take, length-append, length-take}
use lib.Seq.{take_all, take-nil, take-append-le}
use lib.Bits.{bit_or, or_lt}
use lib.Count.{ones}
use lib.Pow.{pow_pos}
use borrow.Author.Tests.{leb-true, leb-false, ne_eqb, eq-eqb}
use Rattle.sets.proofs.Truth.{test}
use Rattle.sets.specs.Below.{one, count}
use Rattle.sets.specs.Masks.{has_bit}
use Rattle.sets.proofs.MaskLaws.{has_bit_above, has_bit_set, ones_count}
use Rattle.site.specs.Sends.{Send}
use Rattle.masks.specs.SiteMasks.{with_site, with_site_if, next_site, first_sites}
use Rattle.site.specs.ByMask.{to_mask}
use Rattle.site.proofs.ByMaskLaws.{only_site_lem, mask_ext}

-- a mask sends as many as it has sites
mask_count : (n mask : ℕ) (send : ℕ → Send) → length (to_mask n mask send) ≡ count (has_bit mask) n
unfolding to_mask count
mask_count zero mask send = refl
mask_count (suc n) mask send = length-append (to_mask n mask send) _ ∙ rw (mask_count n mask send) (last (has_bit mask n))
  where
    last : (b : Bool) → count (has_bit mask) n + length (cond b (send n ∷ []) []) ≡ one b + count (has_bit mask) n
    last true = omega arith
    last false = omega arith

pub mask_length : (n mask : ℕ) (send : ℕ → Send) → mask < 2 ^ n → length (to_mask n mask send) ≡ ones mask
mask_length n mask send h = mask_count n mask send ∙ sym (ones_count n mask h)

-- ---- the first j sites

module _ (n mask j : ℕ) (hn : n < 7) (low : ℕ) (fits : low < 2 ^ n) where
  -- with site n, the sites below n stay
  same_below : (send : ℕ → Send) → to_mask n (with_site low n) send ≡ to_mask n low send
  same_below send = rw (only_site_lem n hn) (mask_ext n (bit_or low (2 ^ n)) low send
      (λ k l. has_bit_set low n k ∙ rw (ne_eqb k n (λ e. absurd (omega arith))) (or-false (has_bit low k))))

  has_it : has_bit (with_site low n) n ≡ true
  has_it = rw (only_site_lem n hn) (has_bit_set low n n ∙ rw (eq-eqb n n refl, has_bit_above n low n fits (omega arith)))

  next_fits : next_site low mask n j < 2 ^ suc n
  next_fits = go (leb j (ones low)) (has_bit mask n)
    where
      more : low < 2 ^ suc n
      more = omega (arith, pow_pos n)

      go : (u v : Bool) → cond u low (with_site_if low n v) < 2 ^ suc n
      go true v = more
      go false false = more
      go false true = rw (only_site_lem n hn) (or_lt (suc n) low (2 ^ n) more (omega (arith, pow_pos n)))

  next_take : (send : ℕ → Send) → to_mask n low send ≡ take j (to_mask n mask send)
      → to_mask (suc n) (next_site low mask n j) send ≡ take j (to_mask (suc n) mask send)
  unfolding to_mask
  next_take send e = elim (test (leb j (ones low))) [
    | inl t ↦
        rw (t, lacks, append-nil) (e ∙ sym (take-append-le j all (tail (has_bit mask n)) (long (leb-true j (ones low) t))))
    | inr f ↦ rw f (go (has_bit mask n) (leb-false j (ones low) f))
  ]
    where
      all : List Send
      all = to_mask n mask send

      tail : Bool → List Send
      tail b = cond b (send n ∷ []) []

      lacks : has_bit low n ≡ false
      lacks = has_bit_above n low n fits (omega arith)

      found : ones low ≡ min j (length all)
      found = sym (mask_length n low send fits) ∙ ap length e ∙ length-take j all

      long : j ≤ ones low → j ≤ length all
      long h = omega (arith, found)

      go : (v : Bool) → ones low < j
          → to_mask n (with_site_if low n v) send ++ tail (has_bit (with_site_if low n v) n) ≡ take j (all ++ tail v)
      go false h = rw (lacks, append-nil, append-nil) e
      go true h =
          let short : length all < j = omega (arith, found) in
          let total : length (all ++ tail true) ≤ j = rw (length-append all (tail true)) (omega arith) in
          rw (has_it, same_below send, e, take_all j all (omega arith), take_all j (all ++ tail true) total)

pub first_fits : (n mask j : ℕ) → n ≤ 7 → first_sites n mask j < 2 ^ n
unfolding first_sites
first_fits zero mask j h = omega arith
first_fits (suc n) mask j h = next_fits n mask j (omega arith) (first_sites n mask j) (first_fits n mask j (omega arith))

-- the first j sends of a mask are those of its first j sites
pub first_take : (n mask j : ℕ) (send : ℕ → Send) → n ≤ 7 → to_mask n (first_sites n mask j) send ≡ take j (to_mask n mask send)
unfolding first_sites to_mask
first_take zero mask j send h = sym (take-nil j)
first_take (suc n) mask j send h =
    next_take n mask j (omega arith) (first_sites n mask j) (first_fits n mask j (omega arith)) send (first_take n mask j send (omega arith))
