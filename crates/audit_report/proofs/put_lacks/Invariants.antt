-- `put_lacks` meets its contract. The loop's invariant: the lines of the first sites are put.
-- Assumes nothing.
use Prim.Native.Nat.{◌≤◌}
use Rattle.printer.specs.Puts.{Put}
use Rattle.audit_report.specs.Needs.{lacked_lines}
use Rattle.audit_report.proofs.put_lacks.Given as goal

abbrev pub invariant-loop-p : goal.invariant-loop-p
invariant-loop-p l = (l.p ≤ l.n) × Put (lacked_lines l.kinds l.notes.counts.now l.notes.lowests.now l.p) l.at l.initial.out l.out l.place
