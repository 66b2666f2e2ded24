-- `only_to` meets its contract: a site from 8 on is in no mask.
-- Assumes nothing.
use Rattle.std.proofs.Common.{rules, arith}
use Prim.Native.Nat.{◌^◌, ◌<◌}
use mathlib.Core.Path.{sym, ap, ◌∙◌}
use lib.Dec.{eqb}
use lib.Pow.{pow_mono}
use borrow.Author.Tests.{ne_eqb, le-ltb}
use Rattle.sets.proofs.MaskLaws.{one_shl}
use Rattle.cells.proofs.only_to.Goals as goal

pub returns-then-owner-lt8 : goal.returns-then-owner-lt8
returns-then-owner-lt8 c = ap (eqb c.args.mask) (one_shl 8 c.args.owner c.if-owner-lt8.true)

pub returns-else-owner-lt8 : goal.returns-else-owner-lt8
returns-else-owner-lt8 c =
    let args = c.args in
    let small : args.mask < 2 ^ 8 = search rules in
    le-ltb args.owner 8 c.if-owner-lt8.false ∙ sym (ne_eqb args.mask (2 ^ args.owner) (omega (arith, pow_mono c.if-owner-lt8.false)))
