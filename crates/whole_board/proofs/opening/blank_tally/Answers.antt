-- `blank_tally` meets its contract.
-- Assumes nothing.
use Rattle.whole_board.proofs.opening.blank_tally.Goals as goal

pub returns : goal.returns
returns c = rw c.empty.ensures
