-- `put_item` meets its contract.
-- Assumes nothing.
use Rattle.printer.proofs.Writing.{then_put}
use Rattle.printer.proofs.print.put_item.Goals as goal

pub returns : goal.returns
returns c = then_put c.put-p.ensures c.put_number.ensures
