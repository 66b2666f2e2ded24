-- The order in which a drain does events, and how it ends.
-- Rests on cases: Trials, and Boards for calls and boards.
use Rattle.std.specs.Prelude.{List, [], ◌∷◌, ◌++◌}
use Rattle.posting.specs.Kinds.{trade}
use Rattle.site.specs.Sends.{FIRST, SECOND}
use Rattle.flight.specs.Flights.{empty_flight}
use Rattle.machine.specs.declared.Board.{Board}
use Rattle.steps.specs.declared.Cut.TheVariants.{Whole}
use Rattle.steps.specs.declared.Call.TheVariants.{Offer, Order, Read}
use Rattle.machine.specs.Boards.{board_flight, board_down}
use Rattle.machine.specs.Runs.{running}
use Rattle.drain.specs.declared.Ending.TheVariants.{Quiet, Spent, Refused}
use Rattle.drain.specs.Drain.{none, event}
use Rattle.cases.specs.Trials.{next, drain, does, ended, Case, ◌gives◌}
use Rattle.cases.specs.Boards.{began, arrives, trading, m9_end, refused_start, crashed, trade_sent, busy}

-- ---- boards

-- site 2 offers a TRADE, then site 0
abbrev pub offered_by_two : Board
offered_by_two = running began (Offer 2 trade 1 2 1000 Whole ∷ Offer 0 trade 1 2 1000 Whole ∷ [])

-- all have received the FIRST of a TRADE, and site 0 the SECOND of 0
abbrev pub firsts_over : Board
firsts_over = running began (trading ++ (arrives FIRST 0 0 0 ∷ arrives FIRST 0 0 1 ∷ arrives FIRST 0 0 2 ∷ arrives SECOND 0 0 0 ∷ []))

-- M9's end, with both entries in the pool, and nothing in flight
unfoldable pub two_pooled : Board
two_pooled = board_flight m9_end empty_flight

-- one of them ordered; both, and one read by site 0; both read by site 0
unfoldable pub one_ordered : Board
one_ordered = running two_pooled (Order 0 ∷ [])

unfoldable pub one_read : Board
one_read = running one_ordered (Order 1 ∷ Read 0 Whole ∷ [])

unfoldable pub both_read : Board
both_read = running one_read (Read 0 Whole ∷ [])

-- ---- the table

unfoldable pub drains : List Case
drains =
    -- nothing to do
    next began gives does none
    -- the receipt lowest by to; at a site that is up
    ∷ next trade_sent gives does (event (arrives FIRST 0 0 0))
    ∷ next (crashed trade_sent) gives does (event (arrives FIRST 0 0 1))
    -- by from before to
    ∷ next firsts_over gives does (event (arrives SECOND 0 0 1))
    -- by posting before from
    ∷ next offered_by_two gives does (event (arrives FIRST 0 2 0))
    -- by form before posting; and a receipt before the pool and the log
    ∷ next busy gives does (event (arrives FIRST 2 2 0))
    -- the lowest pool posting; before the log
    ∷ next two_pooled gives does (event (Order 0))
    ∷ next one_ordered gives does (event (Order 1))
    -- the lowest site that is up and has log left
    ∷ next one_read gives does (event (Read 0 Whole))
    ∷ next both_read gives does (event (Read 1 Whole))
    ∷ next (board_down one_read 1) gives does (event (Read 1 Whole))
    ∷ next (board_down one_read 7) gives does none
    -- order has no site
    ∷ next (board_down one_ordered 7) gives does (event (Order 1))
    -- a drain of nothing; of an unsound board
    ∷ drain began 5 gives ended 0 Quiet
    ∷ drain began 0 gives ended 0 Quiet
    ∷ drain trade_sent 0 gives ended 0 Spent
    ∷ drain both_read 4 gives ended 4 Quiet
    ∷ drain both_read 3 gives ended 3 Spent
    ∷ drain refused_start 5 gives ended 0 (Refused 6)
    ∷ []
