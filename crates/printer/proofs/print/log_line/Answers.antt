-- `log_line` meets its contract.
-- Assumes nothing.
use Rattle.printer.specs.Output.{log_line}
use Rattle.printer.proofs.Writing.{then_put}
use Rattle.printer.proofs.print.log_line.Goals as goal

pub returns : goal.returns
unfolding log_line
returns c = then_put c.put-p.ensures (then_put c.put_items-q.ensures c.put.ensures)
