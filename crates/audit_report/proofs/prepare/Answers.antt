-- `prepare` meets its contract where the records were refused.
-- Assumes nothing.
use mathlib.Core.Logic.{inl, inr}
use native.Mathlib.Omega.{arith}
use Rattle.audit_report.proofs.prepare.Goals as goal

pub returns-else-code-ge10 : goal.returns-else-code-ge10
returns-else-code-ge10 c = λ a. elim a [ inl z ↦ absurd (c.if-code-eq0.false z) | inr h ↦ absurd (omega (arith, h, c.if-code-ge10.false)) ]
