-- `end_blank` meets its contract.
-- Assumes nothing.
use Rattle.std.proofs.Common.{rules, tests}
use Rattle.decoder.proofs.file.end_blank.Goals as goal

pub returns-then-event-eq0-3 : goal.returns-then-event-eq0-3
returns-then-event-eq0-3 c = search (tests, rules)

pub returns-else-event-eq0-3 : goal.returns-else-event-eq0-3
returns-else-event-eq0-3 c = search (tests, rules)
