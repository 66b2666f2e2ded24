-- `row_of` meets its contract.
-- Assumes nothing.
use mathlib.Core.Path.{refl}
use Rattle.views.specs.Views.{row_of}
use Rattle.views.proofs.row_of.Goals as goal

pub returns : goal.returns
unfolding row_of
returns c = refl
