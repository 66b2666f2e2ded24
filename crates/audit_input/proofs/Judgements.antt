-- An answer as the judge gives it: an error where something is refused.
-- Rests on Refusals. Assumes nothing.
use Rattle.std.proofs.Common.{◌≡◌, ◌<◌, Result, Ok, Err, sym, arith}
use mathlib.Core.Logic.{◌≢◌}
use native.Mathlib.Decide.{ℕ_discrete}
use borrow.Author.Tests.{eq-eqb, ne_eqb}
use Rattle.audit_input.specs.declared.Answer.{Answer}
use Rattle.audit_input.specs.declared.Refusal.{Refusal}
use Rattle.audit_input.specs.declared.Refusal.TheVariants.{Sites, Matrix, Sizes, Fields, Unknown, Twice}
use Rattle.audit_input.specs.Refusals.{number_of, judgement}

pub number_above : (why : Refusal) → 0 < number_of why
number_above Sites = omega arith
number_above Matrix = omega arith
number_above Sizes = omega arith
number_above Fields = omega arith
number_above Unknown = omega arith
number_above Twice = omega arith

pub as_error : (a r b : Answer) → a ≡ r → r ≡ b → 0 < r.code → ◌≡◌ {A = Result Unit Answer} (Err a) (judgement b)
as_error a r b e f h = rw (sym f, ne_eqb r.code 0 (λ z. absurd (omega (arith, z))), e)

pub as_ok : (b : Answer) → 0 ≡ b.code → ◌≡◌ {A = Result Unit Answer} (Ok tt) (judgement b)
as_ok b e = rw (eq-eqb b.code 0 (sym e))

-- ---- what the judge's answer says

pub judgement_ok : (b : Answer) → ◌≡◌ {A = Result Unit Answer} (Ok tt) (judgement b) → b.code ≡ 0
judgement_ok b e = elim (ℕ_discrete b.code 0) [ yes z ↦ z | no d ↦ let f = rw (ne_eqb b.code 0 d) at e in cc ]

pub judgement_error : (a b : Answer) → ◌≡◌ {A = Result Unit Answer} (Err a) (judgement b) → (a ≡ b) × (b.code ≢ 0)
judgement_error a b e = elim (ℕ_discrete b.code 0) [
  | yes z ↦ let f = rw (eq-eqb b.code 0 z) at e in cc
  | no d ↦ let f = rw (ne_eqb b.code 0 d) at e in let same : a ≡ b = cc in (same, d)
]
