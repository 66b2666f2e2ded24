-- `alone` meets its contract.
-- Assumes nothing.
use Rattle.site.specs.Steps.{alone}
use Rattle.site.proofs.alone.Goals as goal

pub returns : goal.returns
unfolding alone
returns c = rw (c.subset.ensures, c.with.ensures, c.empty.ensures, c.meet.ensures)
