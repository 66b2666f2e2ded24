-- `statement_lines` meets its contract.
-- Assumes nothing.
use Rattle.statements.specs.Table.{statement_text}
use Rattle.printer.proofs.Writing.{then_put}
use Rattle.statements.proofs.lines.statement_lines.Goals as goal

pub returns : goal.returns
unfolding statement_text
returns c = rw (← c.all_agree-same.ensures) (then_put c.site_parts-place.ensures c.closing_line.ensures)
