-- `blank_site` meets its contract.
-- Assumes nothing.
use Rattle.whole_board.proofs.opening.blank_site.Goals as goal

pub returns : goal.returns
returns c = rw (c.empty.ensures, c.empty-none.ensures)
