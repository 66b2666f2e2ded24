-- `fields_ok` meets its contract.
-- Assumes nothing.
use Rattle.std.proofs.Common.{rules, tests}
use Rattle.posting.specs.Kinds.{fields_ok}
use Rattle.posting.proofs.Posting.fields_ok.Goals as goal

pub returns-then-accounts_ok : goal.returns-then-accounts_ok
unfolding fields_ok
returns-then-accounts_ok c = search (tests, rules)

pub returns-else-accounts_ok : goal.returns-else-accounts_ok
unfolding fields_ok
returns-else-accounts_ok c = search (tests, rules)
