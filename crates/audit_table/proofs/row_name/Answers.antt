-- `row_name` meets its contract.
-- Assumes nothing.
use Rattle.printer.proofs.Writing.{then_put}
use Rattle.audit_table.specs.Table.{row_name}
use Rattle.audit_table.proofs.row_name.Goals as goal

pub returns : goal.returns
unfolding row_name
returns c = then_put c.put_text-p.ensures (then_put c.put_number-q.ensures c.figure_name.ensures)
