-- `joins_held` meets its contract.
-- Assumes nothing.
use mathlib.Core.Path.{sym}
use Rattle.flat.specs.Flat.{joining}
use Rattle.seconds.proofs.second.joins_held.Goals as goal

pub returns-then-majority : goal.returns-then-majority
unfolding joining
returns-then-majority c = rw (sym c.majority.ensures, c.if-majority.true) c.alone.ensures

pub returns-else-majority : goal.returns-else-majority
unfolding joining
returns-else-majority c = rw (sym c.majority.ensures, c.if-majority.false)
