-- M1 to M10 of document 01, "Marked for proof", in one table, each with its words.
-- Rests on Trials, Boards and WholeCase.
use Rattle.std.specs.Prelude.{ℕ, true, false, List, [], ◌∷◌, ℤ, pos, neg_ℤ}
use Rattle.posting.specs.declared.Posting.{Posting}
use Rattle.posting.specs.Kinds.{trade, rate, call, net, every_account}
use Rattle.site.specs.Sends.{FIRST}
use Rattle.steps.specs.declared.Cut.TheVariants.{Whole}
use Rattle.steps.specs.declared.Call.{Call}
use Rattle.steps.specs.declared.Call.TheVariants.{Offer}
use Rattle.machine.specs.declared.Answer.TheVariants.{Done, Offered, Refused}
use Rattle.machine.specs.Runs.{running}
use Rattle.drain.specs.declared.Ending.TheVariants.{Quiet, Spent}
use Rattle.drain.specs.Drain.{drain_limit}
use Rattle.cases.specs.Trials.{Entry, View, start, conflicts, called, calls, drain, look, prints, answer, answered, said, numbers, ended, left, text, Case, ◌gives◌}
use Rattle.cases.specs.Boards.{began, arrives, trading, m9, m10}
use Rattle.cases.specs.WholeCase.{whole_file, whole_text}

-- postings of each kind
abbrev pub a_trade : ℕ → ℕ → Posting
a_trade account other = record { owner = 0; kind = trade; a = account; b = other; amount = 1000 }

abbrev pub a_rate : ℕ → Posting
a_rate account = record { owner = 0; kind = rate; a = account; b = account; amount = 250 }

abbrev pub a_call : ℕ → Posting
a_call account = record { owner = 0; kind = call; a = account; b = account; amount = 0 }

abbrev pub a_net : ℕ → Posting
a_net account = record { owner = 0; kind = net; a = account; b = account; amount = 0 }

-- M5's positions, and 1 and −1
abbrev pub m5 : List ℤ
m5 = pos 1000 ∷ pos 1001 ∷ neg_ℤ (pos 1001) ∷ pos 0 ∷ pos 1 ∷ neg_ℤ (pos 1) ∷ []

-- ---- the table

unfoldable pub marked : List Case
marked =
    -- M1: n 2 gives 2; n 7, f 3 starts; n 8 gives 2. (With n 2, f 1 cause 3 holds too, with n 2, f 0 it does not.)
    start 2 1 0x5B6C gives answer (Refused 2)
    ∷ start 2 0 0x5B6C gives answer (Refused 2)
    ∷ start 7 3 0x5B6C gives answer Done
    ∷ start 8 1 0x5B6C gives answer (Refused 2)
    ∷ start 8 3 0x5B6C gives answer (Refused 2)
    -- M2: n 4, f 2 gives 3.
    ∷ start 4 2 0x5B6C gives answer (Refused 3)
    -- M3: TRADE 1-2 and CALL 2 conflict; with CALL 3 not.
    ∷ conflicts 0x5B6C (a_trade 1 2) (a_call 2) gives said true
    ∷ conflicts 0x5B6C (a_trade 1 2) (a_call 3) gives said false
    -- M4: two TRADEs 1-2 don't; two RATEs of 4 do; two NETs of 4 don't; NET 255 and CALL 7 do.
    ∷ conflicts 0x5B6C (a_trade 1 2) (a_trade 1 2) gives said false
    ∷ conflicts 0x5B6C (a_rate 4) (a_rate 4) gives said true
    ∷ conflicts 0x5B6C (a_net 4) (a_net 4) gives said false
    ∷ conflicts 0x5B6C (a_net every_account) (a_call 7) gives said true
    -- M5: rate 250: positions 1000, 1001, −1001, 0 are called 25, 26, 0, 0 (the −1001 by document 02, W5); 1 and −1 are called 1 and 0.
    ∷ called (pos 250) m5 gives numbers (pos 25 ∷ pos 26 ∷ pos 0 ∷ pos 0 ∷ pos 1 ∷ pos 0 ∷ [])
    -- The same positions at the rates 0, 1 and 10,000.
    ∷ called (pos 0) m5 gives numbers (pos 0 ∷ pos 0 ∷ pos 0 ∷ pos 0 ∷ pos 0 ∷ pos 0 ∷ [])
    ∷ called (pos 1) m5 gives numbers (pos 1 ∷ pos 1 ∷ pos 0 ∷ pos 0 ∷ pos 1 ∷ pos 0 ∷ [])
    ∷ called (pos 10_000) m5 gives numbers (pos 1000 ∷ pos 1001 ∷ pos 0 ∷ pos 0 ∷ pos 1 ∷ pos 0 ∷ [])
    -- M6: the list above, which is all that `board` prints for the whole case; and the answers of its three calls.
    ∷ prints whole_file gives text whole_text
    ∷ calls began (Offer 0 trade 1 2 1000 Whole ∷ arrives FIRST 0 0 0 ∷ arrives FIRST 0 0 0 ∷ [])
    gives answered (Offered 0 ∷ Done ∷ Refused 11 ∷ [])
    -- M7: one TRADE offered, drain 22: 22 events, quiet.
    ∷ drain (running began trading) 22 gives ended 22 Quiet
    -- M8: drain 21: spent.
    ∷ drain (running began trading) 21 gives ended 21 Spent
    -- M9: site 0 offers RATE, site 1 CALL, one account; each owner gets its own FIRST first, site 2 gets RATE's first, and all FIRSTs
    -- precede any SECOND: both enter the pool with empty sets.
    ∷ look began m9 0
    gives left
    (record {
      down = [];
      delivers = [];
      pool = record { posting = 0; carries = [] } ∷ record { posting = 1; carries = [] } ∷ [];
      log = [];
      places = 0 ∷ 0 ∷ 0 ∷ [];
      records = [] ∷ [] ∷ [] ∷ [];
      quiet = false;
    })
    -- M10: as M9, but sites 0 and 2 step RATE, on GOODs from 0 and 2, before CALL's FIRST reaches either of them, and site 0 receives
    -- RATE's THIRDs from 0 and 2 before any other THIRD: RATE goes by DELIVER, CALL's entry carries it,
    ∷ look began m10 0
    gives left
    (record {
      down = [];
      delivers = 0 ∷ [];
      pool = record { posting = 1; carries = 0 ∷ [] } ∷ [];
      log = [];
      places = 0 ∷ 0 ∷ 0 ∷ [];
      records = [] ∷ [] ∷ [] ∷ [];
      quiet = false;
    })
    -- and once the board is quiet every record is 0 1.
    ∷ look began m10 drain_limit
    gives left
    (record {
      down = [];
      delivers = [];
      pool = [];
      log = record { posting = 1; carries = 0 ∷ [] } ∷ [];
      places = 1 ∷ 1 ∷ 1 ∷ [];
      records = (0 ∷ 1 ∷ []) ∷ (0 ∷ 1 ∷ []) ∷ (0 ∷ 1 ∷ []) ∷ [];
      quiet = true;
    })
    ∷ []
