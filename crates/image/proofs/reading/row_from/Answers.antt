-- `row_from` meets its contract.
-- Assumes nothing.
use mathlib.Core.Path.{refl}
use Rattle.image.specs.Image.{row_from}
use Rattle.image.proofs.reading.row_from.Goals as goal

pub returns : goal.returns
unfolding row_from
returns c = refl
