-- The loop's invariant: the postings of the lines so far have the mark.
-- Rests on Marks. Assumes nothing.
use Rattle.std.proofs.Common.{take}
use Rattle.audit_lacks.proofs.Marks.{Valued}
use Rattle.audit_lacks.proofs.mark_all.Given as goal

abbrev pub invariant-loop-x : goal.invariant-loop-x
invariant-loop-x l = Valued l.lines l.value l.initial.marks (take l.x-index l.lines) l.marks
