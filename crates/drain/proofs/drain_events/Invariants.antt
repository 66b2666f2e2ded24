-- The loops of `drain_events`: what each keeps, what the search left by its label needs, and that it finds the lowest message from the floor on.
-- Rests on flight's laws of the search, on Offered and on Turn. Assumes nothing.
use Rattle.std.proofs.Common.{None}
use Prim.Native.Nat.{ℕ, ◌+◌, ◌-◌, ◌≤◌}
use mathlib.Core.Path.{◌≡◌}
use mathlib.Core.List.{List}
use lib.ListN.{get_or, take, drop}
use Rattle.site.specs.Sites.{sites}
use Rattle.site.specs.Sends.{forms}
use Rattle.flight.specs.Flights.{cells, lowest_to, lowest_from, Found}
use Rattle.arrays.specs.Layout.{count_at}
use Rattle.machine.specs.View.{view}
use Rattle.drain.proofs.Offered.{Stands}
use Rattle.drain.proofs.Turn.{Working}
use Rattle.drain.proofs.drain_events.Given as goal

-- what the search finds from cell k on
abbrev pub from_cell : List ℕ → ℕ → ℕ → Found
from_cell masks up k = lowest_from k (drop k (take cells masks)) up

-- site by site, cell by cell, form by form: what is found from the floor on is what is left to search
abbrev pub invariant-loop-to : goal.invariant-loop-to
invariant-loop-to l = (l.to ≤ sites) × (l.found ≡ None) × (from_cell l.board.masks l.up l.floor ≡ lowest_to l.k l.w l.to (sites - l.to) (from_cell l.board.masks l.up (l.k + 1)))

abbrev pub invariant-loop-k : goal.invariant-loop-k
invariant-loop-k l = (l.found ≡ None) × (from_cell l.board.masks l.up l.floor ≡ from_cell l.board.masks l.up l.k) × Stands (get_or l.board.counts count_at 0) l.form l.k l.end

abbrev pub invariant-search : goal.invariant-search
invariant-search l = (l.found ≡ None) × (from_cell l.board.masks l.up l.floor ≡ from_cell l.board.masks l.up l.start) × Stands (get_or l.board.counts count_at 0) l.form l.start l.end

abbrev pub decreases-search : goal.decreases-search
decreases-search l = forms - l.form

abbrev pub invariant-loop-form : goal.invariant-loop-form
invariant-loop-form l = Working l.setup (view l.setup l.initial.board) l.limit l.board l.count l.floor l.floor_form l.end

abbrev pub decreases-loop-form : goal.decreases-loop-form
decreases-loop-form l = l.limit - l.count
