-- `entry_ok` meets its contract.
-- Assumes nothing.
use Rattle.std.proofs.Common.{rules, tests}
use Rattle.sets.specs.Below.{all_of}
use Rattle.soundness.specs.Parts.{entry_sound}
use Rattle.soundness.proofs.pool.entry_ok.Goals as goal

pub returns-then-not-logged : goal.returns-then-not-logged
unfolding entry_sound all_of
returns-then-not-logged c = search (tests, rules)

pub returns-then-finished : goal.returns-then-finished
unfolding entry_sound all_of
returns-then-finished c = search (tests, rules)

pub returns-else-finished : goal.returns-else-finished
unfolding entry_sound all_of
returns-else-finished c = search (tests, rules)
