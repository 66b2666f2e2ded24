-- `enter_row` meets its contract.
-- Assumes nothing.
use mathlib.Core.Path.{refl}
use Rattle.flat.specs.Flat.{entered}
use Rattle.calls.proofs.enter_row.Goals as goal

pub returns : goal.returns
unfolding entered
returns c = refl
