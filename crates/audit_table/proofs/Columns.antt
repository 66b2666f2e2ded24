-- Laws of columns: spaces one by one, a text counted on no bytes of a slice, the heading of a site; and a search over a range for a number that passes.
-- Rests on Table, on amounts, printer and sets. Assumes nothing.
use Prim.Native.Nat.{ℕ, zero, suc, min, ◌+◌, ◌<◌, ◌≤◌}
use mathlib.Core.Path.{◌≡◌, refl, sym, ap, ◌∙◌}
use mathlib.Core.Logic.{inl, inr}
use mathlib.Core.Bool.{Bool, true, false}
use mathlib.Core.List.{List, [], ◌∷◌, ◌++◌}
use native.Mathlib.Numerals.{add-one}
use native.Mathlib.Omega.{arith}
use lib.Dec.{ltb}
use lib.ListN.{length, get_or}
use borrow.Author.Tests.{le-ltb, ltb-true, ltb-false}
use Rattle.std.specs.Bool.{MatchBool}
use Rattle.std.specs.List.{range_with_len, AllWithin, HoldsAt}
use Rattle.std.proofs.lemmas.List.FromFn.{length-range_with_len, get_or-range_with_len}
use Rattle.sets.proofs.BelowLaws.{any_from}
use Rattle.sets.specs.Below.{any_below}
use Rattle.sets.proofs.Truth.{test}
use Rattle.printer.specs.Output.{last_digit, decimal}
use Rattle.printer.specs.Puts.{last_place, Put}
use Rattle.printer.proofs.Texts.{decimal_last}
use Rattle.printer.proofs.Writing.{after_is, none_held}
use Rattle.amounts.specs.Amounts.{text}
use Rattle.audit_table.specs.Table.{spaces, gap, column}

-- ---- spaces

pub spaces_more : (n : ℕ) → spaces n ++ (32 ∷ []) ≡ spaces (n + 1)
spaces_more n = go n ∙ ap spaces (sym (add-one n))
  where
    go : (n : ℕ) → spaces n ++ (32 ∷ []) ≡ spaces (suc n)
    go zero = refl
    go (suc n) = ap (λ (l : List ℕ). 32 ∷ l) (go n)

gap_long : (width n : ℕ) → width ≤ n → 1 ≡ gap width n
unfolding gap
gap_long width n h = rw (le-ltb n width h)

-- ---- a text that was counted on no bytes of a slice, which are t after that

module _ {a t : List ℕ} {n : ℕ} (counted : Put a 0 [] t n) where
  -- the slice is as it was: what is put into it after that
  pub after_counted : {b u : List ℕ} {at p : ℕ} (s : List ℕ) → Put b at (t ++ s) u p → Put b at s u p
  after_counted {b} {u} {at} {p} s x =
      let stays : t ++ s ≡ s = ap (λ (l : List ℕ). l ++ s) (counted.holds ∙ none_held a 0) in
      rw stays at x

  -- and the gap is the text's, whatever its length
  pub counted_gap : (width : ℕ) → width ≤ last_place → gap width n ≡ gap width (length a)
  counted_gap width h =
      let e : n ≡ min (0 + length a) last_place = counted.moved ∙ after_is a 0 (omega arith) in
      elim (test (ltb (length a) width)) [
        | inl l ↦ let less : length a < width = ltb-true (length a) width l in ap (gap width) (omega arith)
        | inr m ↦
            let more : width ≤ length a = ltb-false (length a) width m in
            let long : width ≤ n = omega arith in
            sym (gap_long width n long) ∙ gap_long width (length a) more
      ]

-- ---- the heading of a site

pub site_heading : (p : ℕ) → p < 8 → text "          site " ++ decimal p ≡ column (text "site " ++ decimal p)
unfolding column gap
site_heading p h = let one : decimal p ≡ last_digit p ∷ [] = sym (decimal_last p (omega arith)) in rw one

-- ---- searches

any_fails : (p : ℕ → Bool) (n : ℕ) → ((i : ℕ) → i < n → p i ≡ false) → any_below p n ≡ false
unfolding any_below
any_fails p zero h = refl
any_fails p (suc n) h = rw (any_fails p n (λ i k. h i (omega arith)), h n (omega arith))

-- a search over a range
pub any_range : (p : ℕ → Bool) (n : ℕ) (r : Bool) → MatchBool r ((k : ℕ) × (k < length (range_with_len 0 n)) × HoldsAt (λ x. p x ≡ true) (range_with_len 0 n) k) (AllWithin (λ x. p x ≡ false) (range_with_len 0 n) 0 (length (range_with_len 0 n)))
    → r ≡ any_below p n
any_range p n true h =
    let k : h.0 < n = omega (arith, h.1, length-range_with_len 0 n) in
    let e : get_or (range_with_len 0 n) h.0 0 ≡ h.0 = omega (arith, get_or-range_with_len 0 n h.0 0 k) in
    let here : p h.0 ≡ true = rw e at (h.2 0) in
    sym (any_from p n h.0 k here)
any_range p n false h =
    sym (any_fails p n (λ i k. let e : get_or (range_with_len 0 n) i 0 ≡ i = omega (arith, get_or-range_with_len 0 n i 0 k) in rw e at (h i 0 (omega arith) (omega (arith, length-range_with_len 0 n)))))
