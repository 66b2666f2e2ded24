-- `table_ok` meets its contract.
-- Assumes nothing.
use Rattle.std.proofs.Common.{rules, tests}
use mathlib.Core.Path.{sym, ◌∙◌}
use Rattle.by_bytes.specs.Bytes.{table_ok}
use Rattle.by_bytes.proofs.Reading.{rows_length}
use Rattle.by_bytes.proofs.bytes.table_ok.Goals as goal

pub rows_ok-requires : goal.rows_ok-requires
rows_ok-requires c = rows_length c.args.bytes.now (sym c.whole.ensures ∙ c.if-whole.true)

pub returns-then-whole : goal.returns-then-whole
unfolding table_ok
returns-then-whole c = search (tests, rules)

pub returns-else-whole : goal.returns-else-whole
unfolding table_ok
returns-else-whole c = search (tests, rules)
