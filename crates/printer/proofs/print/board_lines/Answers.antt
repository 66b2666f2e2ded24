-- `board_lines` meets its contract.
-- Assumes nothing.
use Rattle.printer.specs.Output.{board_lines}
use Rattle.printer.proofs.Writing.{then_put}
use Rattle.printer.proofs.print.board_lines.Goals as goal

pub returns : goal.returns
unfolding board_lines
returns c = then_put c.site_lines-p.ensures (then_put c.log_line-q.ensures c.quiet_line.ensures)
