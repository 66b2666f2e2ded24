-- `event_ok` meets its contract.
-- Assumes nothing.
use Rattle.std.proofs.Common.{rules, tests, arith}
use Rattle.decoder.specs.RunFile.{event_ok}
use Rattle.decoder.proofs.file.event_ok.Goals as goal

pub returns-then-cut_ok : goal.returns-then-cut_ok
unfolding event_ok
returns-then-cut_ok c = search (tests, rules)

pub returns-else-cut_ok : goal.returns-else-cut_ok
unfolding event_ok
returns-else-cut_ok c = search (tests, rules)
