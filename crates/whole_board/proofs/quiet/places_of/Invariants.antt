-- `places_of` meets its contract. The loop's invariant: the places of the first p sites stand in the counts.
-- Assumes nothing.
use Prim.Native.Nat.{◌≤◌, ◌-◌}
use Rattle.site.specs.Sites.{sites as site_count}
use Rattle.whole_board.proofs.Places.{PlacesTo}
use Rattle.whole_board.proofs.quiet.places_of.Given as goal

abbrev pub invariant-loop-p : goal.invariant-loop-p
invariant-loop-p l = (l.p ≤ site_count) × PlacesTo l.sites l.logged l.counts l.p
