-- `posting_code` meets its contract.
-- Assumes nothing.
use Rattle.std.proofs.Common.{rules, tests}
use Rattle.audit_files.specs.Files.{posting_code}
use Rattle.audit_files.proofs.files.posting_code.Goals as goal

pub returns-in_default : goal.returns-in_default
unfolding posting_code
returns-in_default c = search (rules, tests)

pub returns-then-not-fields_ok : goal.returns-then-not-fields_ok
unfolding posting_code
returns-then-not-fields_ok c = search (rules, tests)

pub returns-then-unused : goal.returns-then-unused
unfolding posting_code
returns-then-unused c = search (rules, tests)

pub returns-else-unused : goal.returns-else-unused
unfolding posting_code
returns-else-unused c = search (rules, tests)
