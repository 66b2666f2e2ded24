-- `site_heading` meets its contract.
-- Assumes nothing.
use Rattle.statements.specs.Table.{site_heading}
use Rattle.printer.proofs.Writing.{then_put}
use Rattle.statements.proofs.lines.site_heading.Goals as goal

pub returns : goal.returns
unfolding site_heading
returns c =
    rw (← c.wide.ensures)
    (then_put c.put_text-a.ensures
    (then_put c.put_number-b.ensures (then_put c.put_state-c.ensures c.put.ensures)))
