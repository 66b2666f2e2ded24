-- `set_from` meets its contract.
-- Assumes nothing.
use Rattle.image.specs.Image.{set_from}
use Rattle.image.proofs.reading.set_from.Goals as goal

pub returns : goal.returns
unfolding set_from
returns c = rw c.words_from.ensures
