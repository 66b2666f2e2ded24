-- `first_sites` meets its contract. The loop's invariant: the first j of the mask's room below p are found.
-- Assumes nothing.
use mathlib.Core.Path.{◌≡◌}
use Rattle.masks.specs.SiteMasks.{first_sites}
use Rattle.masks.proofs.first_sites.Given as goal

abbrev pub invariant-loop-p : goal.invariant-loop-p
invariant-loop-p l = l.low ≡ first_sites l.p l.mask l.j
