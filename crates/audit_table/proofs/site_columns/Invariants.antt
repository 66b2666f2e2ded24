-- `site_columns` meets its contract. The loop's invariant: the columns of the first p sites are put.
-- Assumes nothing.
use Rattle.printer.specs.Puts.{Put}
use Rattle.audit_table.specs.Table.{site_columns}
use Rattle.audit_table.proofs.site_columns.Given as goal

abbrev pub invariant-loop-p : goal.invariant-loop-p
invariant-loop-p l = Put (site_columns l.p) l.at l.initial.out l.out l.place
