-- `has_in` meets its contract.
-- Assumes nothing.
use mathlib.Core.Path.{refl}
use Rattle.sets.specs.Masks.{has_bit}
use Rattle.arrays.specs.Arrays.{has_in}
use Rattle.arrays.proofs.has_in.Goals as goal

pub returns : goal.returns
unfolding has_in has_bit
returns c =
    refl
