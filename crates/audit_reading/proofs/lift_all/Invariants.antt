-- The loop's invariant: the rows so far are changed.
-- Rests on Bumps. Assumes nothing.
use Rattle.std.proofs.Common.{◌≡◌, max}
use Rattle.audit_reading.specs.Kept.{changed}
use Rattle.audit_reading.proofs.Bumps.{rows_to}
use Rattle.audit_reading.proofs.lift_all.Given as goal

abbrev pub invariant-loop-row : goal.invariant-loop-row
invariant-loop-row l = (l.k ≡ l.kind) × (l.numbers ≡ changed l.initial.numbers (λ v. max v l.place) (rows_to l.kind l.row))
