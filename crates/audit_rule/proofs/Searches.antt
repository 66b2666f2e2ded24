-- What the answer of a search says of the number that it looked for.
-- Rests on the specs. Assumes nothing.
use Rattle.std.proofs.Common.{◌≡◌, ℕ, zero, suc, ◌+◌, ◌<◌, ◌≤◌, Bool, ltb, Some, None, unwrap_or, refl, arith}
use mathlib.Core.Logic.{inl, inr}
use borrow.Author.Tests.{ltb-true, ltb-false}
use Rattle.broadcast.proofs.Tests.{test}
use Rattle.audit_rule.specs.Audit.{lowest_from, lowest}
use Rattle.audit_rule.specs.Searches.{if_below, lowest_below}

module _ {k n : ℕ} where
  pub below_some : {i : ℕ} → Some i ≡ if_below k n → (i ≡ k) × (i < n)
  below_some {i} e = elim (test (ltb k n)) [
    | inl t ↦ let h = ltb-true k n t in let s = rw t at e in let same : i ≡ k = cc in (same, rw same h)
    | inr f ↦ let s = rw f at e in cc
  ]

  pub below_none : None ≡ if_below k n → n ≤ k
  below_none e = elim (test (ltb k n)) [ inl t ↦ let s = rw t at e in cc | inr f ↦ ltb-false k n f ]

lowest_from_most : (q : ℕ → Bool) (k left : ℕ) → lowest_from q k left ≤ k + left
lowest_from_most q k zero = omega arith
lowest_from_most q k (suc left) = elim (test (q k)) [
  | inl t ↦ rw t (omega arith)
  | inr f ↦ let next = lowest_from_most q (suc k) left in rw f (omega (arith, next))
]

-- the bound in place of none
pub lowest_or : (q : ℕ → Bool) (n : ℕ) → unwrap_or (lowest_below q n) n ≡ lowest q n
lowest_or q n = elim (test (ltb (lowest q n) n)) [
  | inl t ↦ rw t refl
  | inr f ↦ let past = ltb-false (lowest q n) n f in let most = lowest_from_most q 0 n in rw f (omega (arith, past, most))
]
