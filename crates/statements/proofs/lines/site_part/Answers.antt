-- `site_part` meets its contract.
-- Assumes nothing.
use Rattle.statements.specs.Table.{site_part}
use Rattle.printer.proofs.Writing.{then_put}
use Rattle.statements.proofs.lines.site_part.Goals as goal

pub returns : goal.returns
unfolding site_part
returns c = then_put c.site_heading-place.ensures c.accounts_part.ensures
