-- `has_room` meets its contract.
-- Assumes nothing.
use Rattle.std.proofs.Common.{rules, tests}
use Rattle.by_bytes.specs.Answers.{roomy}
use Rattle.by_bytes.proofs.has_room.Goals as goal

pub returns-then-size-le-SUM_LIMIT : goal.returns-then-size-le-SUM_LIMIT
unfolding roomy
returns-then-size-le-SUM_LIMIT c = search (tests, rules)

pub returns-else-size-le-SUM_LIMIT : goal.returns-else-size-le-SUM_LIMIT
unfolding roomy
returns-else-size-le-SUM_LIMIT c = search (tests, rules)
