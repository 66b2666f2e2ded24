-- `tally_from` meets its contract.
-- Assumes nothing.
use Rattle.image.specs.Image.{tally_from}
use Rattle.image.proofs.reading.tally_from.Goals as goal

pub returns : goal.returns
unfolding tally_from
returns c = rw c.set_from.ensures
