-- The next event of a board, and drain: events, uncut, until the board is quiet or the limit is used up.
-- Rests on machine and flight.
use Rattle.std.specs.Prelude.{ℕ, zero, suc, ◌+◌, Bool, true, false, cond, not, ◌&&◌, ◌||◌, List, [], ◌∷◌, eqb, ltb, Some, None}
use Rattle.sets.specs.Sets.{members_of}
use Rattle.flight.specs.Flights.{Found, lowest}
use Rattle.machine.specs.declared.Board.{Board}
use Rattle.steps.specs.declared.Cut.TheVariants.{Whole, After}
use Rattle.steps.specs.declared.Call.{Call}
use Rattle.steps.specs.declared.Call.TheVariants.{Offer, Receive, Order, Read, Crash}
use Rattle.machine.specs.Boards.{site_at, is_up}
use Rattle.machine.specs.Soundness.{is_sound}
use Rattle.machine.specs.Runs.{taking, is_quiet, up_mask}
use Rattle.drain.specs.declared.Ending.{Ending}
use Rattle.drain.specs.declared.Ending.TheVariants.{Quiet, Spent, Refused}
use Rattle.drain.specs.declared.Drained.{Drained}

-- what a drain does next
pub data Next : Type 0 where
  none : Next
  event : Call → Next

-- else the lowest site that is up and has log left reads
unfoldable pub next_read : Board → ℕ → Next
next_read b zero = none
next_read b (suc n) =
    let rest = next_read b n in
    elim rest [
      | none ↦ cond (is_up b n && ltb (site_at b n).place b.log.count) (event (Read n Whole)) none
      | event c ↦ event c
    ]

-- else the lowest pool posting is ordered
unfoldable pub next_order : Board → List ℕ → Next
next_order b [] = next_read b b.setup.n
next_order b (m ∷ l) = event (Order m)

-- The next event is the receipt lowest by form, posting, from, to at a site that is up; else an order; else a read.
unfoldable pub next_after : Board → Found → Next
next_after b None = next_order b (members_of b.pool)
next_after b (Some m) = event (Receive m.form m.posting m.from m.to Whole)

unfoldable pub next_event : Board → Next
next_event b = next_after b (lowest b.flight (up_mask b))

-- an event of a drain is a whole receive, order or read
abbrev pub is_whole : Call → Bool
is_whole (Offer site kind account other amount cut) = false
is_whole (Receive form m from to Whole) = true
is_whole (Receive form m from to (After j)) = false
is_whole (Order m) = true
is_whole (Read site Whole) = true
is_whole (Read site (After j)) = false
is_whole (Crash site) = false

-- document 01's number of the refusal, 0 of what is accepted, and the values that come with it: 0 for quiet, 1 for spent
abbrev pub ending_of : Ending → ℕ × List ℕ
ending_of Quiet = (0, 0 ∷ [])
ending_of Spent = (0, 1 ∷ [])
ending_of (Refused k) = (k, [])

-- events until the board is quiet or the limit is used up, with the count of those done before
unfoldable pub draining : ℕ → ℕ → ℕ → Board → Drained
draining zero limit count b =
    record { board = b; limit = limit; count = count; ending = cond (is_quiet b) Quiet Spent }
draining (suc left) limit count b =
    elim (next_event b) [
      | none ↦ record { board = b; limit = limit; count = count; ending = Quiet }
      | event c ↦ draining left limit (count + 1) (taking b c).board
    ]

-- Drain: an unsound board is refused, with nothing done.
unfoldable pub drained : Board → ℕ → Drained
drained b limit =
    cond (is_sound b) (draining limit limit 0 b) (record { board = b; limit = limit; count = 0; ending = Refused 6 })

-- a drain with this limit ends quiet on every board that a run reaches
abbrev pub drain_limit : ℕ
drain_limit = 27136
