-- `first_sites` meets its contract. The loop's invariant: the first j of the mask's room below p are found.
-- Assumes nothing.
use mathlib.Core.Path.{◌≡◌, refl, ◌∙◌}
use native.Mathlib.Numerals.{add-one}
use native.Mathlib.Omega.{arith}
use Rattle.masks.specs.SiteMasks.{room, first_sites}
use Rattle.masks.proofs.first_sites.Goals as goal

pub loop-p-init : goal.loop-p-init
unfolding first_sites
loop-p-init c = refl

pub loop-p-preserved : goal.loop-p-preserved
unfolding first_sites
loop-p-preserved c = rw (add-one, c.next_site-low.ensures, c.loop-p.invariant)

pub returns : goal.returns
returns c =
    let at = c.loop-p in
    let e : at.p ≡ room = omega arith in
    at.invariant ∙ rw e
