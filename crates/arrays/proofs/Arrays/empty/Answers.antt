-- `empty` meets its contract.
-- Assumes nothing.
use mathlib.Core.Path.{refl}
use Rattle.arrays.proofs.Arrays.empty.Goals as goal

pub returns : goal.returns
returns c = refl
