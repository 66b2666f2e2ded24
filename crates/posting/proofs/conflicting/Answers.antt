-- `conflicting` meets its contract.
-- Assumes nothing.
use Rattle.std.proofs.Common.{rules, tests}
use Rattle.posting.specs.Conflicts.{conflicting}
use Rattle.posting.proofs.conflicting.Goals as goal

pub returns-then-matrix_entry : goal.returns-then-matrix_entry
unfolding conflicting
returns-then-matrix_entry c = search (tests, rules)

pub returns-else-matrix_entry : goal.returns-else-matrix_entry
unfolding conflicting
returns-else-matrix_entry c = search (tests, rules)
