-- `tally_ok` meets its contract.
-- Assumes nothing.
use Rattle.std.proofs.Common.{rules, tests}
use Rattle.sets.specs.Below.{all_of}
use Rattle.soundness.specs.Parts.{tally_sound}
use Rattle.soundness.proofs.sites.tally_ok.Goals as goal

pub returns-then-is_empty : goal.returns-then-is_empty
unfolding tally_sound all_of
returns-then-is_empty c = search (tests, rules)

pub returns-then-offered_by : goal.returns-then-offered_by
unfolding tally_sound all_of
returns-then-offered_by c = search (tests, rules)

pub returns-else-offered_by : goal.returns-else-offered_by
unfolding tally_sound all_of
returns-else-offered_by c = search (tests, rules)

pub returns-else-mask_ok-2 : goal.returns-else-mask_ok-2
unfolding tally_sound all_of
returns-else-mask_ok-2 c = search (tests, rules)
