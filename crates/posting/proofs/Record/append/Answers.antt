-- `append` meets its contract: a full record, or a number past the capacity, leaves it as it is.
-- Assumes nothing.
use Rattle.std.proofs.Common.{rules, tests}
use Rattle.posting.specs.Records.{append}
use Rattle.posting.proofs.Record.append.Goals as goal

pub returns-then-m-lt-POSTINGS : goal.returns-then-m-lt-POSTINGS
unfolding append
returns-then-m-lt-POSTINGS c = search (tests, rules)

pub returns-else-self-lt-POSTINGS : goal.returns-else-self-lt-POSTINGS
unfolding append
returns-else-self-lt-POSTINGS c = search (tests, rules)
