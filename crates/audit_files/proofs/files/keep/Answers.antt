-- `keep` meets its contract.
-- Assumes nothing.
use Rattle.std.proofs.Common.{rules, tests}
use Rattle.audit_files.specs.Files.{kept, keeps, where_is}
use Rattle.audit_files.proofs.files.keep.Goals as goal

pub returns-in_default : goal.returns-in_default
unfolding kept keeps where_is
returns-in_default c = search (rules, tests)

pub returns-then-unused : goal.returns-then-unused
unfolding kept keeps where_is
returns-then-unused c = search (rules, tests)

pub returns-else-unused : goal.returns-else-unused
unfolding kept keeps where_is
returns-else-unused c = search (rules, tests)
