-- Several searches for a lowest number in one loop.
-- Rests on audit_rule's Seeking. Assumes nothing.
use Prim.Native.Nat.{ℕ, ◌+◌, ◌<◌, ◌≤◌}
use mathlib.Core.Path.{◌≡◌, refl}
use mathlib.Core.Logic.{inl, inr, ◌≢◌}
use mathlib.Core.Bool.{Bool, cond}
use native.Mathlib.Omega.{arith}
use lib.Dec.{eqb}
use Rattle.broadcast.proofs.Tests.{test, same_or, eqb_yes, eqb_no}
use Rattle.audit_rule.specs.Audit.{lowest}
use Rattle.audit_rule.proofs.Seeking.{Seeking, seek_start, seek_here, seek_next, seek_end}
use Rattle.audit_pair.specs.Pair.{taken}

-- of one of them: a number other than n is the answer; else what is left to search
pub record Left (q : ℕ → Bool) (n low p : ℕ) : Type 0 where
  pub got : low ≢ n → low ≡ lowest q n
  pub rest : low ≡ n → Seeking q n p

module _ {q : ℕ → Bool} {n low p : ℕ} (g : Left q n low p) where
  pub left_next : p < n → Left q n (taken n p (q p) low) (p + 1)
  unfolding taken
  left_next h = elim (same_or low n) [
    | inr d ↦
        let same : cond (q p) (cond (eqb low n) p low) low ≡ low = elim (test (q p)) [ inl t ↦ rw (t, eqb_no low n d) | inr t ↦ rw t ] in
        rw same (record { got = g.got; rest = λ e. absurd (d e) })
    | inl e ↦ elim (test (q p)) [
      | inl t ↦ rw (t, eqb_yes low n e) (record { got = λ d. seek_here (g.rest e) h t; rest = λ k. absurd (omega (arith, k, h)) })
      | inr t ↦ rw t (record { got = g.got; rest = λ k. seek_next (g.rest k) h t })
    ]
  ]

  pub left_end : p ≤ n → n ≤ p → low ≡ lowest q n
  left_end l h = elim (same_or low n) [
    | inl e ↦ let m = seek_end (g.rest e) h in omega (arith, e, m, l, h)
    | inr d ↦ g.got d
  ]
