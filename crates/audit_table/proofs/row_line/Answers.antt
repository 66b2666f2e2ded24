-- `row_line` meets its contract.
-- Assumes nothing.
use Rattle.printer.proofs.Writing.{then_put}
use Rattle.audit_table.specs.Table.{row_line}
use Rattle.audit_table.proofs.row_line.Goals as goal

pub returns : goal.returns
unfolding row_line
returns c = then_put c.put_label-p.ensures (then_put c.put_columns-q.ensures c.put.ensures)
