-- `setup_from` meets its contract.
-- Assumes nothing.
use mathlib.Core.Path.{refl}
use Rattle.image.specs.Image.{setup_from}
use Rattle.image.proofs.reading.setup_from.Goals as goal

pub returns : goal.returns
unfolding setup_from
returns c = refl
