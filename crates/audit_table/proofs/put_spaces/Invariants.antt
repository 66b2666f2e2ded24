-- The loop's invariant: as many spaces are put as the loop has done.
-- Assumes nothing.
use Rattle.printer.specs.Puts.{Put}
use Rattle.audit_table.specs.Table.{spaces}
use Rattle.audit_table.proofs.put_spaces.Given as goal

abbrev pub invariant-loop : goal.invariant-loop
invariant-loop l = Put (spaces l.counter) l.at l.initial.out l.out l.place
