-- A reading's answer is the audit's: every line fits, so the records agree; the first line that does not fit is the one that the audit names.
-- Rests on Lines and First. Assumes nothing.
use Prim.Native.Nat.{ℕ, zero, suc, ◌<◌, ◌≤◌}
use mathlib.Core.Path.{◌≡◌, sym, ap, ◌∙◌}
use mathlib.Core.Logic.{inl, inr}
use mathlib.Core.Bool.{Bool, true, false}
use mathlib.Core.List.{List, ◌∷◌, ◌++◌}
use native.Mathlib.Omega.{arith}
use lib.ListN.{length, get_or, take, drop}
use lib.Seq.{split_at, length-take-le, get_or-take}
use Rattle.sets.proofs.Truth.{never}
use Rattle.posting.specs.declared.Table.{Table}
use Rattle.posting.specs.Kinds.{fields_ok}
use Rattle.posting.specs.Conflicts.{row, conflict}
use Rattle.broadcast.specs.Lists.{In}
use Rattle.broadcast.proofs.Lists.{in_get_d}
use Rattle.broadcast.proofs.Tests.{not-false}
use Rattle.audit_rule.specs.Audit.{joined, NoRepeats, lowest, differs, agreed, departs, audit}
use Rattle.audit_rule.specs.Reading.{line_fits}
use Rattle.audit_rule.proofs.Findings.{lowest_cases}
use Rattle.audit_rule.proofs.Audited.{differs_known}
use Rattle.audit_rule.proofs.Lines.{fits_clean, clean_fits}
use Rattle.audit_rule.proofs.First.{Fine, audit_fine, audit_first}

pub in_place : (y : ℕ) (l : List ℕ) → In y l → (i : ℕ) × (i < length l) × (get_or l i 0 ≡ y)
in_place y mathlib.Core.List.[] x' = elim x' [ ]
in_place y (z ∷ l) (inl e) = (zero, omega arith, sym e)
in_place y (z ∷ l) (inr m) = let (i, h, e) = in_place y l m in (suc i, omega (arith, h), e)

pub in_taken : (y i : ℕ) (l : List ℕ) → i ≤ length l → In y (take i l) → (j : ℕ) × (j < i) × (get_or l j 0 ≡ y)
in_taken y i l h m =
    let (j, k, e) = in_place y (take i l) m in
    let n = length-take-le i l h in
    let s : j < i = omega (arith, k, n) in
    (j, s, sym (get_or-take i l j 0 s) ∙ e)

module _ (matrix : ℕ) (t : Table) (bound n : ℕ) (records : ℕ → List ℕ) (turned : (x y : ℕ) → conflict matrix t x y ≡ conflict matrix t y x) (single : NoRepeats n records)
    (known : (p x : ℕ) → p < n → In x (records p) → x < bound) (lawful : (p x : ℕ) → p < n → In x (records p) → fields_ok (row t x) ≡ true) where
  -- line i of site p's record fits
  abbrev pub fits_at : ℕ → ℕ → Bool
  fits_at p i = line_fits matrix t (joined records p ++ take i (records p)) (take i (records p)) (get_or (records p) i 0)

  fine_at : (p i : ℕ) → p < n → i < length (records p) → fits_at p i ≡ true → Fine (conflict matrix t) bound n records p (get_or (records p) i 0)
  fine_at p i l h u = fits_clean matrix t n records p (get_or (records p) i 0) (take i (records p)) (drop (suc i) (records p)) l (split_at (records p) i 0 h) (single p l) u

  -- Every line fits.
  pub all_fit : ((p i : ℕ) → p < n → i < length (records p) → fits_at p i ≡ true) → audit (conflict matrix t) bound n records ≡ agreed
  all_fit fits = audit_fine (conflict matrix t) bound n records (λ p y l m x.
      let (i, h, e) = in_place y (records p) m in rw (← e) (fine_at p i l h (fits p i l h) x))

  -- The first line that does not fit.
  pub first_unfit : (p i : ℕ) → p < n → i < length (records p) → ((q j : ℕ) → q < p → j < length (records q) → fits_at q j ≡ true) → ((j : ℕ) → j < i → fits_at p j ≡ true)
      → fits_at p i ≡ false → audit (conflict matrix t) bound n records ≡ departs p i (lowest (differs n records (conflict matrix t) p (get_or (records p) i 0)) bound)
  first_unfit p i l h before over breaks =
      let y = get_or (records p) i 0 in
      let my : In y (records p) = in_get_d (records p) i h in
      let here = split_at (records p) i 0 h in
      elim (lowest_cases (differs n records (conflict matrix t) p y) bound) [
        | inr (f, none) ↦ absurd (never (clean_fits matrix t n records p y (take i (records p)) (drop (suc i) (records p)) l here (single p l) (lawful p y l my)
            (λ x. not-false (differs n records (conflict matrix t) p y x) (λ u. none x (differs_known (conflict matrix t) turned n records single bound known p y x l my u) u))) breaks)
        | inl (u, lx, hx) ↦
            audit_first (conflict matrix t) bound n records p y (lowest (differs n records (conflict matrix t) p y) bound) (take i (records p)) (drop (suc i) (records p)) here
            (λ q z lq m x. let (j, k, e) = in_place z (records q) m in rw (← e) (fine_at q j (omega (arith, lq, l)) k (before q j lq k) x))
            (λ z m x. let (j, k, e) = in_taken z i (records p) (omega (arith, h)) m in rw (← e) (fine_at p j l (omega (arith, k, h)) (over j k) x))
            lx hx l
            ∙ ap (λ k. departs p k (lowest (differs n records (conflict matrix t) p y) bound)) (length-take-le i (records p) (omega (arith, h)))
      ]
