-- `net_of_all` meets its contract.
-- Assumes nothing.
use Rattle.std.proofs.Common.{rules, tests}
use Rattle.posting.specs.Kinds.{net_of_all}
use Rattle.posting.proofs.net_of_all.Goals as goal

pub returns-then-b-eq-EVERY_ACCOUNT : goal.returns-then-b-eq-EVERY_ACCOUNT
unfolding net_of_all
returns-then-b-eq-EVERY_ACCOUNT c = search (tests, rules)

pub returns-else-b-eq-EVERY_ACCOUNT : goal.returns-else-b-eq-EVERY_ACCOUNT
unfolding net_of_all
returns-else-b-eq-EVERY_ACCOUNT c = search (tests, rules)
