-- `has_site` meets its contract: a mask has 8 bits.
-- Assumes nothing.
use Rattle.std.proofs.Common.{arith}
use mathlib.Core.Path.{refl, sym, ◌∙◌}
use borrow.Author.Tests.{le-ltb}
use Rattle.sets.specs.Masks.{has_bit}
use Rattle.sets.proofs.MaskLaws.{has_bit_above}
use Rattle.masks.proofs.has_site.Goals as goal

pub returns-then-p-lt8 : goal.returns-then-p-lt8
unfolding has_bit
returns-then-p-lt8 c = refl

pub returns-else-p-lt8 : goal.returns-else-p-lt8
returns-else-p-lt8 c = le-ltb c.args.p 8 c.if-p-lt8.false ∙ sym (has_bit_above 8 c.args.mask c.args.p c.ranges.mask.fits (omega arith))
