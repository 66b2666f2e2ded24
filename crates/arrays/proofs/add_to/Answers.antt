-- `add_to` meets its contract.
-- Assumes nothing.
use Prim.Native.Nat.{◌%◌}
use native.Mathlib.Omega.{arith}
use Rattle.sets.proofs.MaskLaws.{one_shl}
use Rattle.arrays.specs.Arrays.{adding}
use Rattle.arrays.proofs.add_to.Goals as goal

pub returns : goal.returns
unfolding adding
returns c =
    rw (one_shl 64 (c.args.m % 64) (omega arith))
