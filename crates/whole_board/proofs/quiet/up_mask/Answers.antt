-- `up_mask` meets its contract.
-- Assumes nothing.
use Prim.Native.Nat.{◌^◌, ◌-◌, ◌<◌}
use mathlib.Core.Path.{sym}
use native.Mathlib.Omega.{arith}
use lib.Bits.{and_mask, and_le_r}
use lib.Pow.{suc_ones}
use Rattle.sets.proofs.MaskLaws.{one_shl}
use Rattle.machine.proofs.QuietPartLaws.{up_many, up_few}
use borrow.Author.Rules.{rules}
use Rattle.whole_board.proofs.quiet.up_mask.Goals as goal

pub returns-then-n-ge8 : goal.returns-then-n-ge8
returns-then-n-ge8 c =
    let args = c.args in
    let small : args.down < 2 ^ 8 = search rules in
    sym (up_many args.n args.down c.if-n-ge8.true small)

pub overflow_sub-all : goal.overflow_sub-all
overflow_sub-all c = omega (arith, one_shl 8 c.args.n c.if-n-ge8.false, suc_ones c.args.n)

pub overflow_sub-result-2 : goal.overflow_sub-result-2
overflow_sub-result-2 c = and_le_r c.args.down _

pub returns : goal.returns
returns c =
    let args = c.args in
    rw (one_shl 8 args.n c.if-n-ge8.false, and_mask args.down args.n) (sym (up_few args.n args.down c.if-n-ge8.false))
