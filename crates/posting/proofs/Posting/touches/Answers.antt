-- `touches` meets its contract.
-- Assumes nothing.
use Rattle.std.proofs.Common.{rules, tests}
use Rattle.posting.specs.Conflicts.{touches}
use Rattle.posting.proofs.Posting.touches.Goals as goal

pub returns-then-account-self-2 : goal.returns-then-account-self-2
unfolding touches
returns-then-account-self-2 c = search (tests, rules)

pub returns-else-account-self-2 : goal.returns-else-account-self-2
unfolding touches
returns-else-account-self-2 c = search (tests, rules)

pub returns-else-account-lt-ACCOUNTS : goal.returns-else-account-lt-ACCOUNTS
unfolding touches
returns-else-account-lt-ACCOUNTS c = search (tests, rules)
