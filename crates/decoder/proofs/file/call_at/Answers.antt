-- `call_at` meets its contract.
-- Assumes nothing.
use Rattle.std.proofs.Common.{rules, tests, arith}
use Rattle.decoder.specs.RunFile.{call_at}
use Rattle.decoder.proofs.file.call_at.Goals as goal

pub returns-then-k-event_count : goal.returns-then-k-event_count
unfolding call_at
returns-then-k-event_count c = search (tests, rules)

pub returns-else-k-event_count : goal.returns-else-k-event_count
unfolding call_at
returns-else-k-event_count c = search (tests, rules)
