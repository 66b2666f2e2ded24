-- `offered_by` meets its contract.
-- Assumes nothing.
use Rattle.std.proofs.Common.{rules, tests}
use Rattle.posting.specs.Conflicts.{offered_by}
use Rattle.posting.proofs.offered_by.Goals as goal

pub returns-then-m-count : goal.returns-then-m-count
unfolding offered_by
returns-then-m-count c = search (tests, rules)

pub returns-else-m-count : goal.returns-else-m-count
unfolding offered_by
returns-else-m-count c = search (tests, rules)
