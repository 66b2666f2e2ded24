-- `late` meets its contract.
-- Assumes nothing.
use Rattle.std.proofs.Common.{rules, tests}
use Rattle.site.proofs.Setup.late.Goals as goal

pub returns-then-has_site : goal.returns-then-has_site
returns-then-has_site c = search (tests, rules)

pub returns-else-has_site : goal.returns-else-has_site
returns-else-has_site c = search (tests, rules)
