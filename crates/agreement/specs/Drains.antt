-- Lists with drains among the calls: a drain stands for the events it does. What a drain does, counts and answers.
-- Rests on Agreement and drain. The proof is in proofs/Drained.
use Rattle.std.specs.Prelude.{ℕ, zero, suc, ◌<◌, ◌≤◌, ◌≡◌, ◌⊎◌, Bool, true, false, cond, List, [], ◌∷◌, ◌++◌, length}
use Rattle.machine.specs.declared.Board.{Board}
use Rattle.steps.specs.declared.Cut.TheVariants.{Whole, After}
use Rattle.steps.specs.declared.Call.{Call}
use Rattle.steps.specs.declared.Call.TheVariants.{Offer, Receive, Order, Read, Crash}
use Rattle.machine.specs.Soundness.{is_sound}
use Rattle.machine.specs.Runs.{taking, accepted, running, is_action, is_quiet}
use Rattle.machine.specs.History.{accepted_calls}
use Rattle.drain.specs.declared.Ending.{Ending}
use Rattle.drain.specs.declared.Ending.TheVariants.{Quiet, Spent}
use Rattle.drain.specs.Drain.{is_whole, Next, none, event, next_event, drained}
use Rattle.agreement.specs.Agreement.{BooksAgree}

-- a call, or a drain with its limit
pub data Item : Type 0 where
  call : Call → Item
  drain : ℕ → Item

-- the events that a drain does from a board, as calls
unfoldable pub events_of : ℕ → Board → List Call
events_of zero b = []
events_of (suc left) b = elim (next_event b) [ none ↦ [] | event c ↦ c ∷ events_of left (taking b c).board ]

-- the calls that an item stands for, and the board after it; a refused drain does nothing
abbrev pub stands_for : Board → Item → List Call
stands_for b (call c) = c ∷ []
stands_for b (drain limit) = cond (is_sound b) (events_of limit b) []

abbrev pub board_after : Board → Item → Board
board_after b (call c) = (taking b c).board
board_after b (drain limit) = (drained b limit).board

-- a list with drains, as it runs, and as calls alone
unfoldable pub running_all : Board → List Item → Board
running_all b [] = b
running_all b (i ∷ l) = running_all (board_after b i) l

unfoldable pub expanded : Board → List Item → List Call
expanded b [] = []
expanded b (i ∷ l) = stands_for b i ++ expanded (board_after b i) l

-- the books agree after a list with drains: of its calls and of the board that it ends on
abbrev pub BooksAgreeAfterAll : ℕ → ℕ → Board → List Item → Type 0
BooksAgreeAfterAll n matrix start items =
    BooksAgree n matrix start (expanded start items) (accepted_calls start (expanded start items)) (running_all start items)

-- A drain on a board b that a list reached.
pub record DrainSays (b : Board) (limit : ℕ) : Type 0 where
  -- it is the run of its events, each accepted, and counts them
  pub runs : (drained b limit).board ≡ running b (events_of limit b)
  pub all_accepted : accepted_calls b (events_of limit b) ≡ events_of limit b
  pub counts : (drained b limit).count ≡ length (events_of limit b)
  pub within : (drained b limit).count ≤ limit
  -- the next event is accepted, and whole; there is none exactly if the board is quiet
  pub next_accepted : (c : Call) → next_event b ≡ event c → (accepted (taking b c).answer ≡ true) × (is_whole c ≡ true)
  pub next_none : next_event b ≡ none → is_quiet b ≡ true
  pub quiet_next : is_quiet b ≡ true → next_event b ≡ none
  -- it ends quiet; or spent, with exactly the limit done, and the board not quiet
  pub ends : (((drained b limit).ending ≡ Quiet) × (is_quiet (drained b limit).board ≡ true))
      ⊎ (((drained b limit).ending ≡ Spent) × ((drained b limit).count ≡ limit) × (is_quiet (drained b limit).board ≡ false))
  -- the most that any board needs: 256 postings of 2 · 7² + 7 + 1 events
  pub enough : 27136 ≤ limit → (drained b limit).ending ≡ Quiet
