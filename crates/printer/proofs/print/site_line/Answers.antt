-- `site_line` meets its contract.
-- Assumes nothing.
use Rattle.printer.specs.Output.{site_line}
use Rattle.printer.proofs.Writing.{then_put}
use Rattle.printer.proofs.print.site_line.Goals as goal

pub returns : goal.returns
unfolding site_line
returns c =
    rw (← c.wide.ensures)
    (then_put c.put_text-a.ensures
    (then_put c.put_number-b.ensures
    (then_put c.put_state-c.ensures (then_put c.put_items-d.ensures c.put.ensures))))
