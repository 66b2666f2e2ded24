-- `run_lines` meets its contract.
-- Assumes nothing.
use Rattle.printer.specs.Output.{printed_of}
use Rattle.printer.proofs.Writing.{then_put}
use Rattle.printer.proofs.print.run_lines.Goals as goal

pub returns : goal.returns
unfolding printed_of
returns c = then_put c.event_lines-p.ensures c.board_lines.ensures
