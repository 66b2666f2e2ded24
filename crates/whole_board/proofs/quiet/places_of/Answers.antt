-- `places_of` meets its contract. The loop's invariant: the places of the first p sites stand in the counts.
-- Assumes nothing.
use Prim.Native.Nat.{◌-◌}
use mathlib.Core.Path.{◌≡◌, refl}
use native.Mathlib.Omega.{arith}
use lib.ListN.{length}
use Rattle.site.specs.Sites.{sites as site_count}
use Rattle.whole_board.proofs.Places.{place_stored, places_all}
use borrow.Author.Rules.{rules}
use Rattle.whole_board.proofs.quiet.places_of.Goals as goal

pub loop-p-init : goal.loop-p-init
loop-p-init c = (search rules, (search rules, refl, λ q h. absurd (omega arith)))

pub loop-p-preserved : goal.loop-p-preserved
loop-p-preserved c =
    let at = c.loop-p in
    let args = c.args in
    (search rules, place_stored args.sites args.logged at.counts at.p c.loop-p-test.true at.invariant.1)

pub returns : goal.returns
returns c =
    let at = c.loop-p in
    let args = c.args in
    let last : at.p ≡ site_count = omega arith in
    let long : length args.sites ≡ site_count = search rules in
    record { by_index = places_all args.sites args.logged at.counts long (rw last at at.invariant.1); logged_at_value = at.invariant.1.1 }
