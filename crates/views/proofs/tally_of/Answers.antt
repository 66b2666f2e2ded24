-- `tally_of` meets its contract.
-- Assumes nothing.
use Rattle.views.specs.Views.{tally_of}
use Rattle.views.proofs.tally_of.Goals as goal

pub returns : goal.returns
unfolding tally_of
returns c = rw c.load.ensures
