-- `refused_line` meets its contract.
-- Assumes nothing.
use Rattle.printer.specs.Output.{refused_line}
use Rattle.printer.proofs.Writing.{then_put}
use Rattle.printer.proofs.print.refused_line.Goals as goal

pub returns : goal.returns
unfolding refused_line
returns c = rw (← c.wide.ensures) (then_put c.put_text-p.ensures (then_put c.put_number-q.ensures c.put.ensures))
