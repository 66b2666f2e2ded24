-- `row_parts` meets its contract. The loop's invariant: the first rows are put.
-- Assumes nothing.
use Rattle.printer.specs.Puts.{Put}
use Rattle.audit_table.specs.Table.{row_parts}
use Rattle.audit_table.proofs.row_parts.Given as goal

abbrev pub invariant-loop-row : goal.invariant-loop-row
invariant-loop-row l = Put (row_parts l.figures l.n l.row) l.at l.initial.out l.out l.place
