-- The loop's invariant: what stands above is marked, and the answer is what is left to search.
-- Rests on Marks. Assumes nothing.
use Rattle.std.proofs.Common.{length}
use Rattle.audit_input.proofs.Marks.{Marking}
use Rattle.audit_input.proofs.repeated_line.Given as goal

abbrev pub invariant-loop-i : goal.invariant-loop-i
invariant-loop-i l = Marking l.lines (length l.initial.marks) l.marks l.i
