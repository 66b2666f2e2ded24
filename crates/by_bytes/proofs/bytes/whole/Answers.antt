-- `whole` meets its contract.
-- Assumes nothing.
use Rattle.std.proofs.Common.{rules, tests}
use Rattle.by_bytes.specs.Bytes.{whole}
use Rattle.by_bytes.proofs.bytes.whole.Goals as goal

pub returns-then-length-size-eq0 : goal.returns-then-length-size-eq0
unfolding whole
returns-then-length-size-eq0 c = search (tests, rules)

pub returns-else-length-size-eq0 : goal.returns-else-length-size-eq0
unfolding whole
returns-else-length-size-eq0 c = search (tests, rules)
