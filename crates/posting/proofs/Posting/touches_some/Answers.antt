-- `touches_some` meets its contract.
-- Assumes nothing.
use Rattle.std.proofs.Common.{rules, tests}
use Rattle.posting.specs.Touched.{touches_some}
use Rattle.posting.proofs.Posting.touches_some.Goals as goal

pub returns-then-self-lt-ACCOUNTS : goal.returns-then-self-lt-ACCOUNTS
unfolding touches_some
returns-then-self-lt-ACCOUNTS c = search (tests, rules)

pub returns-else-self-lt-ACCOUNTS : goal.returns-else-self-lt-ACCOUNTS
unfolding touches_some
returns-else-self-lt-ACCOUNTS c = search (tests, rules)
