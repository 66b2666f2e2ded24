-- `drop_from` meets its contract.
-- Assumes nothing.
use Prim.Native.Nat.{◌%◌}
use native.Mathlib.Omega.{arith}
use Rattle.sets.proofs.MaskLaws.{one_shl}
use Rattle.arrays.specs.Arrays.{dropping}
use Rattle.arrays.proofs.drop_from.Goals as goal

pub returns : goal.returns
unfolding dropping
returns c = rw (one_shl 64 (c.args.m % 64) (omega arith))
