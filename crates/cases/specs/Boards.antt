-- Calls, schedules of calls and boards that more than one table of cases begins from.
-- Rests on Trials.
use Rattle.std.specs.Prelude.{ℕ, List, [], ◌∷◌, ◌++◌, replicate}
use Rattle.sets.specs.Sets.{capacity}
use Rattle.posting.specs.Kinds.{trade, rate, call, net}
use Rattle.site.specs.Sends.{FIRST, SECOND, THIRD}
use Rattle.machine.specs.declared.Board.{Board}
use Rattle.steps.specs.declared.Cut.{Cut}
use Rattle.steps.specs.declared.Cut.TheVariants.{Whole}
use Rattle.steps.specs.declared.Call.{Call}
use Rattle.steps.specs.declared.Call.TheVariants.{Offer, Receive, Order, Read, Crash}
use Rattle.machine.specs.Boards.{board_table}
use Rattle.machine.specs.Runs.{running}
use Rattle.cases.specs.Trials.{begun}

-- the board of a start with n 3, f 1, 0x5B6C
abbrev pub began : Board
began = begun 3 1 0x5B6C

-- ---- calls

-- a receipt, whole
abbrev pub arrives : ℕ → ℕ → ℕ → ℕ → Call
arrives form posting from to = Receive form posting from to Whole

-- site p offers a TRADE
abbrev pub offers : ℕ → Cut → Call
offers p cut = Offer p trade 1 2 1000 cut

-- a TRADE offered
abbrev pub trading : List Call
trading = Offer 0 trade 1 2 1000 Whole ∷ []

-- ---- the schedules of M9 and M10

-- site 0 offers RATE, site 1 CALL, one account
abbrev pub two_offers : List Call
two_offers = Offer 0 rate 4 4 250 Whole ∷ Offer 1 call 4 4 0 Whole ∷ []

-- each owner gets its own FIRST first, site 2 gets RATE's first
abbrev pub own_firsts : List Call
own_firsts = arrives FIRST 0 0 0 ∷ arrives FIRST 1 1 1 ∷ arrives FIRST 0 0 2 ∷ []

-- the other FIRSTs
abbrev pub other_firsts : List Call
other_firsts = arrives FIRST 1 1 2 ∷ arrives FIRST 1 1 0 ∷ arrives FIRST 0 0 1 ∷ []

-- sites 0 and 2 step RATE, on what 0 and 2 said of it
abbrev pub rate_steps : List Call
rate_steps = arrives SECOND 0 0 0 ∷ arrives SECOND 0 2 0 ∷ arrives SECOND 0 0 2 ∷ arrives SECOND 0 2 2 ∷ []

-- site 0 receives RATE's THIRDs from 0 and 2
abbrev pub rate_thirds : List Call
rate_thirds = arrives THIRD 0 0 0 ∷ arrives THIRD 0 2 0 ∷ []

-- sites 1 and 2 step CALL, on what 1 and 2 said of it, and site 1 receives their THIRDs
abbrev pub call_ends : List Call
call_ends =
    arrives SECOND 1 1 1 ∷ arrives SECOND 1 2 1 ∷ arrives SECOND 1 1 2 ∷ arrives SECOND 1 2 2
    ∷ arrives THIRD 1 1 1 ∷ arrives THIRD 1 2 1
    ∷ []

abbrev pub m9 : List Call
m9 = two_offers ++ (own_firsts ++ (other_firsts ++ (rate_steps ++ (rate_thirds ++ call_ends))))

-- the board that M9 ends on
unfoldable pub m9_end : Board
m9_end = running began m9

abbrev pub m10 : List Call
m10 = two_offers ++ (own_firsts ++ (rate_steps ++ (rate_thirds ++ (other_firsts ++ call_ends))))

-- ---- boards

-- the board of a refused start
abbrev pub refused_start : Board
refused_start = begun 2 0 0x5B6C

-- as many postings, all NETs of site 0
abbrev pub offered_board : ℕ → Board
offered_board count =
    board_table began
    (record { count = count; rows = replicate capacity (record { owner = 0; kind = net; a = 5; b = 5; amount = 0 }) })

-- site 0 is down
abbrev pub crashed : Board → Board
crashed b = running b (Crash 0 ∷ [])

-- a TRADE is offered by site 0
unfoldable pub trade_sent : Board
trade_sent = running began trading

-- M9, all but RATE's last THIRD, with which its entry goes into the pool
unfoldable pub to_pool : Board
to_pool = running began (two_offers ++ (own_firsts ++ (other_firsts ++ (rate_steps ++ (arrives THIRD 0 0 0 ∷ [])))))

-- M10, all but RATE's last THIRD, with which it goes by DELIVER; and with it
unfoldable pub to_deliver : Board
to_deliver = running began (two_offers ++ (own_firsts ++ (rate_steps ++ (arrives THIRD 0 0 0 ∷ []))))

unfoldable pub rate_delivers : Board
rate_delivers = running to_deliver (arrives THIRD 0 2 0 ∷ [])

-- M9's end: RATE 0 of site 0 is ordered and read by site 0, CALL 1 of site 1 stays in the pool; site 1 steps RATE, so that its THIRD is in
-- flight; site 2 offers NET 2, whose FIRSTs are in flight
unfoldable pub busy : Board
busy = running m9_end (Order 0 ∷ Read 0 Whole ∷ arrives SECOND 0 0 1 ∷ arrives SECOND 0 1 1 ∷ Offer 2 net 5 5 0 Whole ∷ [])
