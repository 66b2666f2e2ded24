-- `top_line` meets its contract.
-- Assumes nothing.
use Rattle.std.proofs.Common.{rules, tests}
use Rattle.audit_files.specs.Entries.{top_line}
use Rattle.audit_files.proofs.files.top_line.Goals as goal

pub returns-then-headed : goal.returns-then-headed
unfolding top_line
returns-then-headed c = search (rules, tests)

pub returns-else-headed : goal.returns-else-headed
unfolding top_line
returns-else-headed c = search (rules, tests)
