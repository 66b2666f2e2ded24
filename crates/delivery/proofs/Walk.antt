-- The set bits of a word in turn: the lowest, and what is left after it; the members of a set word by word; delivery of both step by step.
-- Rests on Delivery, and on sets for words and bits. Assumes nothing.
use Prim.Native.Nat.{ℕ, zero, suc, ◌+◌, ◌*◌, ◌-◌, ◌/◌, ◌%◌, ◌^◌, ◌<◌, ◌≤◌}
use mathlib.Core.Path.{◌≡◌, refl, sym, ap, ap₂, ◌∙◌}
use mathlib.Core.Bool.{Bool, true, false, cond}
use mathlib.Core.List.{List, [], ◌∷◌, ◌++◌, append_assoc, append-nil}
use native.Mathlib.Nat.{add-zero, lt_of_lt_of_le, le_of_eq}
use native.Mathlib.Omega.{arith}
use lib.Dec.{eqb}
use lib.ListN.{length, set}
use borrow.Author.Tests.{lt-ltb, le-ltb}
use lib.Count.{count_trailing_zeros, under}
use lib.Pow.{shr-shr, shr_le, shr_lt, pow_mono}
use Rattle.sets.specs.Masks.{has_bit}
use Rattle.sets.proofs.MaskLaws.{has_bit_half, has_bit_zero}
use Rattle.sets.specs.Words.{word, member, members, members_below}
use Rattle.sets.proofs.WordLaws.{member_at}
use Rattle.sets.specs.Sets.{capacity}
use Rattle.arrays.specs.Layout.{have_of, delivered_at, record_at}
use Rattle.arrays.specs.declared.Arrays.{Arrays}
use Rattle.arrays.specs.Arrays.{has_in, adding}
use Rattle.delivery.specs.Delivery.{Laid, laid, laid_of, with_laid, recorded, delivered, delivered_all, bits_from}

-- ---- what a delivery leaves alone

module _ (first b : Arrays) (kept : with_laid first (laid_of b) ≡ b) where
  pub rest_kept : (after : Arrays) (d : Laid) → after ≡ with_laid b d → with_laid first (laid_of after) ≡ after
  rest_kept after d e = ap (λ (x : Arrays). with_laid first (laid_of x)) e ∙ sym (e ∙ ap (λ (x : Arrays). with_laid x d) (sym kept))

  pub whole : (d : Laid) → laid_of b ≡ d → b ≡ with_laid first d
  whole d e = sym kept ∙ ap (with_laid first) e

-- ---- a posting delivered: the record has it, is full, or lacks it

module _ (ws counts bs : List ℕ) (p m : ℕ) where
  pub delivered_known : has_in ws (have_of p) m ≡ true → laid ws counts bs ≡ delivered (laid ws counts bs) p m
  unfolding delivered
  delivered_known e = rw e

  pub delivered_full : has_in ws (have_of p) m ≡ false → capacity ≤ recorded counts p → laid ws counts bs ≡ delivered (laid ws counts bs) p m
  unfolding delivered
  delivered_full e h = rw (e, le-ltb (recorded counts p) capacity h)

  pub delivered_new :
      (new : List ℕ) → has_in ws (have_of p) m ≡ false → recorded counts p < capacity → new ≡ adding ws (have_of p) m
      → laid new (set counts (delivered_at p) (recorded counts p + 1)) (set bs (record_at p (recorded counts p)) m) ≡ delivered (laid ws counts bs) p m
  unfolding delivered
  delivered_new new e h f = rw (e, lt-ltb (recorded counts p) capacity h, f)

pub all_append : (a : Laid) (p : ℕ) (l k : List ℕ) → delivered_all a p (l ++ k) ≡ delivered_all (delivered_all a p l) p k
unfolding delivered_all
all_append a p [] k = refl
all_append a p (m ∷ l) k = all_append (delivered a p m) p l k

-- ---- the lowest bit

bit_even : (w : ℕ) → w % 2 ≡ 0 → has_bit w 0 ≡ false
unfolding has_bit
bit_even w e = let h : w / 1 % 2 ≡ 0 = omega arith in ap (λ (x : ℕ). eqb x 1) h

bit_odd : (w : ℕ) → w % 2 ≡ 1 → has_bit w 0 ≡ true
unfolding has_bit
bit_odd w e = let h : w / 1 % 2 ≡ 1 = omega arith in ap (λ (x : ℕ). eqb x 1) h

pub low_below : (d r w : ℕ) → 0 < w → w < 2 ^ r → r ≤ d → count_trailing_zeros d w < r
unfolding count_trailing_zeros
low_below d zero w a b c = absurd (omega arith)
low_below zero (suc r) w a b c = absurd (omega arith)
low_below (suc d) (suc r) w a b c = go (w % 2) refl (λ u v. low_below d r (w / 2) u v (omega arith))
  where
    go : (q : ℕ) → w % 2 ≡ q → (0 < w / 2 → w / 2 < 2 ^ r → count_trailing_zeros d (w / 2) < r) → under q (count_trailing_zeros d (w / 2)) < suc r
    go zero e h = let s : count_trailing_zeros d (w / 2) < r = h (omega arith) (omega arith) in omega (arith, s)
    go (suc q) e h = omega arith

bits_more : (d w x : ℕ) → w < 2 ^ d → bits_from (suc d) w x ≡ bits_from d w x
unfolding bits_from
bits_more zero w x h = let e : w % 2 ≡ 0 = omega arith in rw (bit_even w e)
bits_more (suc d) w x h = ap (λ (l : List ℕ). cond (has_bit w 0) (x ∷ []) [] ++ l) (bits_more d (w / 2) (suc x) (omega arith))

pub bits_none : (d x : ℕ) → bits_from d 0 x ≡ []
unfolding bits_from
bits_none zero x = refl
bits_none (suc d) x = rw (has_bit_zero 0) (bits_none d (suc x))

half_shift : (w t : ℕ) → w / 2 / 2 ^ t ≡ w / 2 ^ suc t
half_shift w t = let e : 1 + t ≡ suc t = omega arith in shr-shr w 1 t ∙ ap (λ (j : ℕ). w / 2 ^ j) e

-- where the number of zeros is given
module _ (d w x : ℕ) (b : w < 2 ^ suc d) where
  low_odd : w % 2 ≡ 1 → bits_from (suc d) w x ≡ (x + 0) ∷ bits_from (suc d) (w / 2 ^ 0 / 2) (x + 0 + 1)
  unfolding bits_from
  low_odd e =
      let h : x ≡ x + 0 = omega arith in
      let k : suc x ≡ x + 0 + 1 = omega arith in
      let v : w / 2 ≡ w / 1 / 2 = omega arith in
      let small : w / 2 < 2 ^ d = omega arith in
      head (has_bit w 0) (bit_odd w e)
      ∙ ap (λ (l : List ℕ). x ∷ l) (sym (bits_more d (w / 2) (suc x) small))
      ∙ ap (λ (y : ℕ). y ∷ bits_from (suc d) (w / 2) (suc x)) h
      ∙ ap₂ (λ (u y : ℕ). (x + 0) ∷ bits_from (suc d) u y) v k
    where
      head : (so : Bool) → so ≡ true → (cond so (x ∷ []) [] ++ bits_from d (w / 2) (suc x)) ≡ x ∷ bits_from d (w / 2) (suc x)
      head so t = rw t

  low_even :
      (t : ℕ) → w % 2 ≡ 0 → bits_from d (w / 2) (suc x) ≡ (suc x + t) ∷ bits_from d (w / 2 / 2 ^ t / 2) (suc x + t + 1)
      → bits_from (suc d) w x ≡ (x + suc t) ∷ bits_from (suc d) (w / 2 ^ suc t / 2) (x + suc t + 1)
  unfolding bits_from
  low_even t e ih =
      let h : suc x + t ≡ x + suc t = omega arith in
      let le : w / 2 / 2 ^ t ≤ w / 2 = shr_le (w / 2) t in
      let small : w / 2 ^ suc t / 2 < 2 ^ d = omega (arith, le, half_shift w t) in
      head (has_bit w 0) (bit_even w e)
      ∙ ih
      ∙ ap₂ (λ (y v : ℕ). y ∷ bits_from d (v / 2) (y + 1)) h (half_shift w t)
      ∙ ap (λ (l : List ℕ). (x + suc t) ∷ l) (sym (bits_more d (w / 2 ^ suc t / 2) (x + suc t + 1) small))
    where
      head : (so : Bool) → so ≡ false → (cond so (x ∷ []) [] ++ bits_from d (w / 2) (suc x)) ≡ bits_from d (w / 2) (suc x)
      head so f = rw f

  low_by :
      (q t : ℕ) → w % 2 ≡ q → 0 < w
      → (0 < w / 2 → bits_from d (w / 2) (suc x) ≡ (suc x + t) ∷ bits_from d (w / 2 / 2 ^ t / 2) (suc x + t + 1))
      → bits_from (suc d) w x ≡ (x + under q t) ∷ bits_from (suc d) (w / 2 ^ under q t / 2) (x + under q t + 1)
  low_by zero t e a ih = low_even t e (ih (omega arith))
  low_by (suc zero) t e a ih = low_odd e
  low_by (suc (suc q)) t e a ih = absurd (omega arith)

pub bits_low :
    (d w x : ℕ) → 0 < w → w < 2 ^ d
    → bits_from d w x ≡ (x + count_trailing_zeros d w) ∷ bits_from d (w / 2 ^ count_trailing_zeros d w / 2) (x + count_trailing_zeros d w + 1)
unfolding count_trailing_zeros
bits_low zero w x a b = absurd (omega arith)
bits_low (suc d) w x a b =
    low_by d w x b (w % 2) (count_trailing_zeros d (w / 2)) refl a (λ u. bits_low d (w / 2) (suc x) u (omega arith))

-- ---- the members, word by word

pub members_on :
    (ws : List ℕ) (d n w : ℕ) → ((j : ℕ) → j < d → member ws (n + j) ≡ has_bit w j)
    → members_below ws (n + d) ≡ members_below ws n ++ bits_from d w n
unfolding bits_from members_below
members_on ws zero n w h = rw (add-zero n, append-nil)
members_on ws (suc d) n w h =
    let e : n + suc d ≡ suc n + d = omega arith in
    let first : member ws n ≡ has_bit w 0 = sym (ap (member ws) (add-zero n)) ∙ h 0 (omega arith) in
    ap (members_below ws) e
    ∙ members_on ws d (suc n) (w / 2)
    (λ j b. let s : suc n + j ≡ n + suc j = omega arith in ap (member ws) s ∙ h (suc j) (omega arith) ∙ has_bit_half w j)
    ∙ rw (first, append_assoc)

-- one word more
pub members_next : (ws : List ℕ) (k : ℕ) → members_below ws (64 * (k + 1)) ≡ members_below ws (64 * k) ++ bits_from 64 (word ws k) (64 * k)
members_next ws k =
    let e : 64 * (k + 1) ≡ 64 * k + 64 = omega arith in
    ap (members_below ws) e ∙ members_on ws 64 (64 * k) (word ws k) (member_at ws k)

-- ---- what is left to deliver of a word, after its lowest bit

-- what is left of a word: numbers from x on, below base + 64
abbrev pub Left : ℕ → ℕ → ℕ → Type 0
Left base x w = (base ≤ x) × (x ≤ base + 64) × (w < 2 ^ (base + 64 - x))

module _ (base x w : ℕ) (left : Left base x w) (some : 0 < w) where
  abbrev low : ℕ
  low = count_trailing_zeros 64 w

  fit : base + 64 - x ≤ 64
  fit = omega (arith, left.0)

  -- the lowest bit's number
  pub step_in : x + count_trailing_zeros 64 w < base + 64
  step_in = omega (arith, left.1, low_below 64 (base + 64 - x) w some left.2 fit)

  -- the word above it
  pub step_left : Left base (x + count_trailing_zeros 64 w + 1) (w / 2 ^ count_trailing_zeros 64 w / 2)
  step_left =
      let r = base + 64 - (x + low + 1) in
      let e : base + 64 - x ≡ (r + 1) + low = omega (arith, step_in) in
      let h : w / 2 ^ low < 2 ^ (r + 1) = shr_lt (r + 1) low (lt_of_lt_of_le left.2 (le_of_eq (ap (λ (k : ℕ). 2 ^ k) e))) in
      let from : base ≤ x + low + 1 = omega (arith, left.0) in
      let upto : x + low + 1 ≤ base + 64 = omega (arith, step_in) in
      (from, upto, shr_lt r 1 h)

  pub step_delivered :
      (a b : Laid) (p : ℕ) → b ≡ delivered a p (x + count_trailing_zeros 64 w)
      → delivered_all a p (bits_from 64 w x) ≡ delivered_all b p (bits_from 64 (w / 2 ^ count_trailing_zeros 64 w / 2) (x + count_trailing_zeros 64 w + 1))
  unfolding delivered_all
  step_delivered a b p e =
      ap (delivered_all a p) (bits_low 64 w x some (lt_of_lt_of_le left.2 (pow_mono fit)))
      ∙ ap (λ (c : Laid). delivered_all c p (bits_from 64 (w / 2 ^ low / 2) (x + low + 1))) (sym e)

-- nothing is left
pub word_end : (a b : Laid) (p w x : ℕ) → a ≡ delivered_all b p (bits_from 64 w x) → w ≡ 0 → b ≡ a
unfolding delivered_all
word_end a b p w x e z = sym (e ∙ ap (λ (v : ℕ). delivered_all b p (bits_from 64 v x)) z ∙ ap (delivered_all b p) (bits_none 64 x))

-- ---- an entry, word by word

module _ (a b : Laid) (p : ℕ) (ws : List ℕ) (k : ℕ) (so : b ≡ delivered_all a p (members_below ws (64 * k))) where
  pub entry_next : (r : Laid) → r ≡ delivered_all b p (bits_from 64 (word ws k) (64 * k)) → r ≡ delivered_all a p (members_below ws (64 * (k + 1)))
  entry_next r e =
      e ∙ ap (λ (x : Laid). delivered_all x p (bits_from 64 (word ws k) (64 * k))) so
      ∙ sym (ap (delivered_all a p) (members_next ws k) ∙ all_append a p (members_below ws (64 * k)) (bits_from 64 (word ws k) (64 * k)))

  pub entry_end : (m : ℕ) (r : Laid) → length ws ≡ k → r ≡ delivered b p m → r ≡ delivered_all a p (members ws ++ (m ∷ []))
  unfolding members delivered_all
  entry_end m r e f =
      f ∙ ap (λ (x : Laid). delivered x p m) (so ∙ ap (λ (n : ℕ). delivered_all a p (members_below ws (64 * n))) (sym e))
      ∙ sym (all_append a p (members_below ws (64 * length ws)) (m ∷ []))
