-- `mask_ok` meets its contract.
-- Assumes nothing.
use Rattle.std.proofs.Common.{rules, tests}
use Rattle.soundness.specs.Parts.{mask_sound}
use Rattle.soundness.proofs.sites.mask_ok.Goals as goal

pub returns-then-mask-eq0 : goal.returns-then-mask-eq0
unfolding mask_sound
returns-then-mask-eq0 c = search (tests, rules)

pub returns-then-offered_by : goal.returns-then-offered_by
unfolding mask_sound
returns-then-offered_by c = search (tests, rules)

pub returns-else-offered_by : goal.returns-else-offered_by
unfolding mask_sound
returns-else-offered_by c = search (tests, rules)
