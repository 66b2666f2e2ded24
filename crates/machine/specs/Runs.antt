-- A call as a value, the run of any list of calls from a board, quiet, and when none is left to do.
-- Rests on Calls. The numbers of a call are unbounded; a refused call's board is passed on, and nothing is filtered or stops.
use Rattle.std.specs.Prelude.{ℕ, ◌-◌, ◌%◌, ◌^◌, ◌≡◌, Bool, true, false, ◌&&◌, ◌||◌, List, [], ◌∷◌, leb}
use Rattle.sets.specs.Below.{all_below}
use Rattle.sets.specs.Sets.{is_empty_set}
use Rattle.flight.specs.Flights.{nothing_comes}
use Rattle.machine.specs.declared.Board.{Board}
use Rattle.steps.specs.declared.Call.{Call}
use Rattle.steps.specs.declared.Call.TheVariants.{Offer, Receive, Order, Read, Crash}
use Rattle.machine.specs.declared.Answer.{Answer}
use Rattle.machine.specs.declared.Answer.TheVariants.{Done, Offered, Refused}
use Rattle.machine.specs.declared.Outcome.{Outcome}
use Rattle.machine.specs.Boards.{site_at, is_down}
use Rattle.machine.specs.Calls.{offering, receiving, ordering, reading, crashing}

-- what a call does
unfoldable pub taking : Board → Call → Outcome
taking b (Offer site kind account other amount cut) = offering b site kind account other amount cut
taking b (Receive form m from to cut) = receiving b form m from to cut
taking b (Order m) = ordering b m
taking b (Read site cut) = reading b site cut
taking b (Crash site) = crashing b site

-- accepted is a call that isn't refused
abbrev pub accepted : Answer → Bool
accepted Done = true
accepted (Offered m) = true
accepted (Refused k) = false

-- each call gets the board that the one before it returned
unfoldable pub running : Board → List Call → Board
running b [] = b
running b (c ∷ l) = running (taking b c).board l

-- the answers of a run, in order
unfoldable pub answers : Board → List Call → List Answer
answers b [] = []
answers b (c ∷ l) = (taking b c).answer ∷ answers (taking b c).board l

-- ---- quiet

-- the sites that are up, as a mask: those below n that are not down
unfoldable pub up_mask : Board → ℕ
up_mask b = (2 ^ b.setup.n - 1) - b.down % 2 ^ b.setup.n

-- A board is quiet if nothing in flight is for a site that is up, the pool is empty, and every site that is up has read the whole log.
unfoldable pub is_quiet : Board → Bool
is_quiet b =
    nothing_comes b.flight.masks (up_mask b)
    && (is_empty_set b.pool
    && all_below (λ p. is_down b p || leb b.log.count (site_at b p).place) b.setup.n)

-- ---- none is left to do

-- a receive, an order or a read
abbrev pub is_action : Call → Bool
is_action (Offer site kind account other amount cut) = false
is_action (Receive form m from to cut) = true
is_action (Order m) = true
is_action (Read site cut) = true
is_action (Crash site) = false

-- every receive, order and read would be refused
abbrev pub NothingLeft : Board → Type 0
NothingLeft b = (c : Call) → is_action c ≡ true → accepted (taking b c).answer ≡ false
