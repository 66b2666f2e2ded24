-- The count of a round: n - f is compared without a difference.
-- Rests on sets. Assumes nothing.
use Prim.Native.Nat.{ℕ, ◌+◌, ◌-◌}
use mathlib.Core.Path.{◌≡◌, sym, ◌∙◌}
use mathlib.Core.Logic.{inl, inr}
use native.Mathlib.Omega.{arith}
use lib.Dec.{leb}
use borrow.Author.Tests.{leb-true, leb-false, le-leb, lt-leb}
use Rattle.sets.proofs.Truth.{test}

-- n - f is at most c just where n is at most f + c
pub quorum_reached : (n f c : ℕ) → leb n (f + c) ≡ leb (n - f) c
quorum_reached n f c = elim (test (leb n (f + c))) [
  | inl t ↦ t ∙ sym (le-leb (n - f) c (omega (arith, leb-true n (f + c) t)))
  | inr t ↦ t ∙ sym (lt-leb (n - f) c (omega (arith, leb-false n (f + c) t)))
]
