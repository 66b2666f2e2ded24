-- The audit's answer from the side of a reading: nothing departs at any line, so it is `agreed`; the first line that departs is the one it names.
-- Rests on Findings. Assumes nothing.
use Prim.Native.Nat.{ℕ, zero, suc, ◌+◌, ◌<◌, ◌≤◌}
use mathlib.Core.Path.{◌≡◌, refl, ap, ◌∙◌}
use mathlib.Core.Logic.{inl, inr}
use mathlib.Core.Bool.{Bool, true, false}
use mathlib.Core.List.{List, [], ◌∷◌, ◌++◌}
use native.Mathlib.Omega.{arith}
use lib.Dec.{ltb}
use lib.ListN.{length}
use borrow.Author.Tests.{lt-ltb}
use Rattle.broadcast.specs.Lists.{In}
use Rattle.broadcast.proofs.Tests.{nope, same_or}
use Rattle.audit_rule.specs.Audit.{lowest, differs, Outcome, agreed, departs, audit_lines, audit_sites, audit}
use Rattle.audit_rule.proofs.Findings.{lowest_cases, lowest_below}

module _ (conflict : ℕ → ℕ → Bool) (bound n : ℕ) (records : ℕ → List ℕ) where
  abbrev at : ℕ → ℕ → ℕ → Bool
  at p y = differs n records conflict p y

  -- nothing departs at a posting of site p's record
  abbrev pub Fine : ℕ → ℕ → Type 0
  Fine p y = (x : ℕ) → differs n records conflict p y x ≡ false

  none_lowest : (p y : ℕ) → Fine p y → ltb (lowest (at p y) bound) bound ≡ false
  none_lowest p y fine = elim (lowest_cases (at p y) bound) [
    | inl (t, l, h) ↦ absurd (nope h (fine (lowest (at p y) bound)))
    | inr (f, none) ↦ f
  ]

  lines_past : (p i : ℕ) (l r : List ℕ) (next : Outcome) → ((y : ℕ) → In y l → Fine p y)
      → audit_lines conflict bound n records p i (l ++ r) next ≡ audit_lines conflict bound n records p (length l + i) r next
  unfolding audit_lines
  lines_past p i [] r next fine = ap (λ k. audit_lines conflict bound n records p k r next) (omega arith)
  lines_past p i (y ∷ l) r next fine =
      rw (none_lowest p y (fine y (inl refl)))
      (lines_past p (suc i) l r next (λ z m. fine z (inr m)) ∙ ap (λ k. audit_lines conflict bound n records p k r next) (omega arith))

  lines_fine : (p i : ℕ) (l : List ℕ) (next : Outcome) → ((y : ℕ) → In y l → Fine p y) → audit_lines conflict bound n records p i l next ≡ next
  unfolding audit_lines
  lines_fine p i [] next fine = refl
  lines_fine p i (y ∷ l) next fine = rw (none_lowest p y (fine y (inl refl))) (lines_fine p (suc i) l next (λ z m. fine z (inr m)))

  sites_fine : (p left : ℕ) → ((q y : ℕ) → q < p + left → In y (records q) → Fine q y) → audit_sites conflict bound n records p left ≡ agreed
  unfolding audit_sites
  sites_fine p zero fine = refl
  sites_fine p (suc left) fine =
      lines_fine p 0 (records p) (audit_sites conflict bound n records (suc p) left) (λ y m. fine p y (omega arith) m)
      ∙ sites_fine (suc p) left (λ q y l m. fine q y (omega (arith, l)) m)

  -- Nothing departs.
  pub audit_fine : ((p y : ℕ) → p < n → In y (records p) → Fine p y) → audit conflict bound n records ≡ agreed
  unfolding audit
  audit_fine fine = sites_fine 0 n (λ q y l m. fine q y (omega (arith, l)) m)

  module _ (p y x : ℕ) (above below : List ℕ) (here : records p ≡ above ++ y ∷ below) (before : (q z : ℕ) → q < p → In z (records q) → Fine q z)
      (over : (z : ℕ) → In z above → Fine p z) (known : x < bound) (departing : differs n records conflict p y x ≡ true) where
    found : ltb (lowest (at p y) bound) bound ≡ true
    found = let l = lowest_below (at p y) 0 bound x (omega arith) (omega (arith, known)) departing in lt-ltb (lowest (at p y) bound) bound (omega (arith, l))

    lines_first : (next : Outcome) → audit_lines conflict bound n records p 0 (records p) next ≡ departs p (length above) (lowest (at p y) bound)
    unfolding audit_lines
    lines_first next =
        ap (λ (l : List ℕ). audit_lines conflict bound n records p 0 l next) here
        ∙ lines_past p 0 above (y ∷ below) next over
        ∙ rw found (ap (λ i. departs p i (lowest (at p y) bound)) (omega arith))

    sites_first : (q left : ℕ) → q ≤ p → p < q + left → audit_sites conflict bound n records q left ≡ departs p (length above) (lowest (at p y) bound)
    unfolding audit_sites
    sites_first q zero h l = absurd (omega (arith, h, l))
    sites_first q (suc left) h l = elim (same_or q p) [
      | inl e ↦ rw e (lines_first (audit_sites conflict bound n records (suc p) left))
      | inr d ↦
          lines_fine q 0 (records q) (audit_sites conflict bound n records (suc q) left) (λ z m. before q z (omega (arith, h, d)) m)
          ∙ sites_first (suc q) left (omega (arith, h, d)) (omega (arith, l))
    ]

    -- The first line that departs.
    pub audit_first : p < n → audit conflict bound n records ≡ departs p (length above) (lowest (at p y) bound)
    unfolding audit
    audit_first l = sites_first 0 n (omega arith) (omega (arith, l))
