-- `fresh` meets its contract.
-- Assumes nothing.
use Rattle.whole_board.proofs.opening.fresh.Goals as goal

pub returns : goal.returns
returns c = rw (c.empty-2.ensures, c.empty-none.ensures, c.empty.ensures, c.blank_tally.ensures, c.blank_site.ensures, c.empty_table.ensures)
