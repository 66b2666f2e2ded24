-- `same_number` meets its contract.
-- Assumes nothing.
use Rattle.amounts.proofs.Figures.{same_bits}
use Rattle.amounts.proofs.same_number.Goals as goal

pub returns : goal.returns
returns c = same_bits c.args.x c.args.y c.ranges.x c.ranges.y
