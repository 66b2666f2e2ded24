-- `relay_to` meets its contract.
-- Assumes nothing.
use Rattle.std.proofs.Common.{rules, tests}
use Rattle.masks.specs.SiteMasks.{relay_to}
use Rattle.masks.proofs.relay_to.Goals as goal

pub returns-then-p-owner : goal.returns-then-p-owner
unfolding relay_to
returns-then-p-owner c = search (tests, rules)

pub returns-else-p-owner : goal.returns-else-p-owner
unfolding relay_to
returns-else-p-owner c = search (tests, rules)
