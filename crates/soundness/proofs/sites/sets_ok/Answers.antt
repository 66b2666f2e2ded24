-- `sets_ok` meets its contract.
-- Assumes nothing.
use Rattle.std.proofs.Common.{rules, tests}
use Rattle.sets.specs.Below.{all_of}
use Rattle.soundness.specs.Parts.{sets_sound}
use Rattle.soundness.proofs.sites.sets_ok.Goals as goal

pub returns-then-subset-4 : goal.returns-then-subset-4
unfolding sets_sound all_of
returns-then-subset-4 c = search (tests, rules)

pub returns-else-subset-4 : goal.returns-else-subset-4
unfolding sets_sound all_of
returns-else-subset-4 c = search (tests, rules)
