-- `accounts_ok` meets its contract.
-- Assumes nothing.
use Rattle.std.proofs.Common.{rules, tests}
use Rattle.posting.specs.Kinds.{accounts_ok}
use Rattle.posting.proofs.accounts_ok.Goals as goal

pub returns-then-net_of_all : goal.returns-then-net_of_all
unfolding accounts_ok
returns-then-net_of_all c = search (tests, rules)

pub returns-then-a-lt-ACCOUNTS : goal.returns-then-a-lt-ACCOUNTS
unfolding accounts_ok
returns-then-a-lt-ACCOUNTS c = search (tests, rules)

pub returns-else-a-lt-ACCOUNTS : goal.returns-else-a-lt-ACCOUNTS
unfolding accounts_ok
returns-else-a-lt-ACCOUNTS c = search (tests, rules)
