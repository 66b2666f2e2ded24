-- `board_of` meets its contract.
-- Assumes nothing.
use Rattle.machine.specs.View.{view}
use Rattle.machine.proofs.taking.board_of.Goals as goal

pub returns : goal.returns
unfolding view
returns c = rw (c.log_of.ensures, c.entries_of.ensures, c.load.ensures, c.tallies_of.ensures, c.sites_of.ensures, c.table_of.ensures)
