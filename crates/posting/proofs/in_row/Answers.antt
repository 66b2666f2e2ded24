-- `in_row` meets its contract.
-- Assumes nothing.
use Rattle.std.proofs.Common.{rules, tests}
use Rattle.posting.specs.Kinds.{in_row}
use Rattle.posting.proofs.in_row.Goals as goal

pub returns-then-a-b : goal.returns-then-a-b
unfolding in_row
returns-then-a-b c = search (tests, rules)

pub returns-else-a-b : goal.returns-else-a-b
unfolding in_row
returns-else-a-b c = search (tests, rules)

pub returns-then-a-b-2 : goal.returns-then-a-b-2
unfolding in_row
returns-then-a-b-2 c = search (tests, rules)

pub returns-else-a-b-2 : goal.returns-else-a-b-2
unfolding in_row
returns-else-a-b-2 c = search (tests, rules)

pub returns-then-a-b-3 : goal.returns-then-a-b-3
unfolding in_row
returns-then-a-b-3 c = search (tests, rules)

pub returns-else-a-b-3 : goal.returns-else-a-b-3
unfolding in_row
returns-else-a-b-3 c = search (tests, rules)

pub returns-in_default : goal.returns-in_default
unfolding in_row
returns-in_default c = search (tests, rules)
