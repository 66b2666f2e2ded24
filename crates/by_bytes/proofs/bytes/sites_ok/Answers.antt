-- `sites_ok` meets its contract.
-- Assumes nothing.
use Rattle.std.proofs.Common.{rules, tests}
use mathlib.Core.Path.{sym, ◌∙◌}
use Rattle.by_bytes.specs.Bytes.{record_size, sites_ok}
use Rattle.by_bytes.proofs.Reading.{parts_few}
use Rattle.by_bytes.proofs.bytes.sites_ok.Goals as goal

pub each_ok-requires : goal.each_ok-requires
each_ok-requires c = parts_few _ record_size 7 (sym c.whole.ensures ∙ c.if-whole.true)

pub returns-then-whole : goal.returns-then-whole
unfolding sites_ok
returns-then-whole c = search (tests, rules)

pub returns-else-whole : goal.returns-else-whole
unfolding sites_ok
returns-else-whole c = search (tests, rules)
