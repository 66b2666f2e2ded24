-- The loop's invariant: the marks are what is left to mark.
-- Rests on Marks. Assumes nothing.
use Rattle.audit_pair.proofs.Marks.{Marking}
use Rattle.audit_pair.proofs.mark_ahead.Given as goal

abbrev pub invariant-loop-z : goal.invariant-loop-z
invariant-loop-z l = Marking l.lines l.y l.size l.initial.marks l.marks l.z-index
