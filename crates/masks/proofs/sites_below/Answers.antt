-- `sites_below` meets its contract: a mask of eight sites is below 2 ^ n from 8 on.
-- Assumes nothing.
use Rattle.std.proofs.Common.{rules, arith}
use Prim.Native.Nat.{◌^◌, ◌<◌}
use mathlib.Core.Path.{sym, ap, ◌∙◌}
use lib.Dec.{ltb}
use lib.Pow.{pow_mono}
use borrow.Author.Tests.{lt-ltb, le-leb}
use Rattle.sets.proofs.MaskLaws.{one_shl}
use Rattle.masks.proofs.sites_below.Goals as goal

pub returns-then-n-ge8 : goal.returns-then-n-ge8
returns-then-n-ge8 c =
    let args = c.args in
    let small : args.mask < 2 ^ 8 = search rules in
    le-leb 8 args.n c.if-n-ge8.true ∙ sym (lt-ltb args.mask (2 ^ args.n) (omega (arith, pow_mono c.if-n-ge8.true)))

pub returns-else-n-ge8 : goal.returns-else-n-ge8
returns-else-n-ge8 c = ap (ltb c.args.mask) (one_shl 8 c.args.n c.if-n-ge8.false)
