-- `row` meets its contract: past the capacity there is no row.
-- Assumes nothing.
use Rattle.std.proofs.Common.{rules, tests}
use Rattle.posting.specs.Conflicts.{row}
use Rattle.posting.proofs.Table.row.Goals as goal

pub returns : goal.returns
unfolding row
returns c = search (tests, rules)
