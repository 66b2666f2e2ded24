-- `row_ok` meets its contract.
-- Assumes nothing.
use Rattle.std.proofs.Common.{rules, tests}
use Rattle.soundness.specs.Parts.{row_sound}
use Rattle.soundness.proofs.table.row_ok.Goals as goal

pub returns-then-p-n : goal.returns-then-p-n
unfolding row_sound
returns-then-p-n c = search (tests, rules)

pub returns-else-p-n : goal.returns-else-p-n
unfolding row_sound
returns-else-p-n c = search (tests, rules)
