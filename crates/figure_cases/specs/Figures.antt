-- What stands in a lent slice once the books of a site, or of all sites, have filled it, for boards made by calls and drains.
-- Rests on cases: Trials, and Boards for calls and boards.
use Rattle.std.specs.Prelude.{ℕ, ◌+◌, ◌*◌, List, [], ◌∷◌, ◌++◌, ℤ, pos, neg_ℤ, replicate}
use Rattle.posting.specs.Kinds.{trade, rate, call, net, every_account}
use Rattle.site.specs.Sends.{DELIVER}
use Rattle.machine.specs.declared.Board.{Board}
use Rattle.steps.specs.declared.Cut.TheVariants.{Whole}
use Rattle.steps.specs.declared.Call.TheVariants.{Offer, Crash}
use Rattle.machine.specs.Runs.{running}
use Rattle.drain.specs.Drain.{drained, drain_limit}
use Rattle.cases.specs.Trials.{Trial, part, part_of_all, Result, numbers, Case, ◌gives◌}
use Rattle.cases.specs.Boards.{began, arrives}

-- ---- boards

-- Site 0 offers TRADE 0 (1, 2, 1001) and RATE 1 (of 1, 250); a drain does their FIRSTs, SECONDs and THIRDs. Then DELIVERs arrive, so that the
-- record of site 0 is 0 1, of site 1 it is empty, and of site 2 it is 0; and site 2 goes down.
unfoldable pub parted : Board
parted =
    running (drained (running began (Offer 0 trade 1 2 1001 Whole ∷ Offer 0 rate 1 1 250 Whole ∷ [])) 30).board
    (arrives DELIVER 0 0 0 ∷ arrives DELIVER 1 0 0 ∷ arrives DELIVER 0 0 2 ∷ Crash 2 ∷ [])

-- Site 0 offers RATE 0 (of 1, 250), TRADE 1 (3, 4, 500) and TRADE 2 (1, 2, 1001), and all but their DELIVERs is done. Then DELIVERs arrive, so that
-- the record of site 0 is 0 1 2, of site 1 it is 2 0, and of site 2 it is empty; others are in flight.
unfoldable pub apart : Board
apart =
    running (drained (running began (Offer 0 rate 1 1 250 Whole ∷ Offer 0 trade 3 4 500 Whole ∷ Offer 0 trade 1 2 1001 Whole ∷ [])) 45).board
    (arrives DELIVER 0 0 0 ∷ arrives DELIVER 1 0 0 ∷ arrives DELIVER 2 0 0 ∷ arrives DELIVER 2 0 1 ∷ arrives DELIVER 0 0 1 ∷ [])

-- two CALLs of account 1, and a drain to quiet
unfoldable pub after_calls : Board
after_calls = (drained (running parted (Offer 0 call 1 1 0 Whole ∷ Offer 1 call 1 1 0 Whole ∷ [])) drain_limit).board

-- then account 1 sells 2002 and is called once more, and a drain to quiet; it buys 1002 and is called once more, and a drain to quiet
unfoldable pub after_sale : Board
after_sale = (drained (running after_calls (Offer 0 trade 2 1 2002 Whole ∷ Offer 1 call 1 1 0 Whole ∷ [])) drain_limit).board

unfoldable pub after_purchase : Board
after_purchase = (drained (running after_sale (Offer 1 trade 1 2 1002 Whole ∷ Offer 0 call 1 1 0 Whole ∷ [])) drain_limit).board

-- a NET of account 1 and one of account 2, and a drain to quiet
unfoldable pub after_nets : Board
after_nets = (drained (running after_calls (Offer 0 net 1 1 0 Whole ∷ Offer 1 net 2 2 0 Whole ∷ [])) drain_limit).board

-- after the CALLs, a TRADE of accounts 3 and 15 and a NET of every account, and a drain to quiet; then another NET of every account
unfoldable pub after_net_of_all : Board
after_net_of_all =
    (drained (running after_calls (Offer 0 trade 15 3 500 Whole ∷ Offer 1 net every_account every_account 0 Whole ∷ [])) drain_limit).board

unfoldable pub netted_again : Board
netted_again = (drained (running after_net_of_all (Offer 0 net every_account every_account 0 Whole ∷ [])) drain_limit).board

-- ---- what is looked at

-- a lent slice: as many numbers as n sites have, each 7, and then 8 and 9
abbrev pub lent : ℕ → List ℤ
lent n = replicate (64 * n) (pos 7) ++ (pos 8 ∷ pos 9 ∷ [])

-- the slice to its end: none here is as long
abbrev pub to_end : ℕ
to_end = 200

-- account k in the books of a site: its four numbers, from 4k on
abbrev pub account : Board → (site k : ℕ) → Trial
account b site k = part b site (lent 1) (4 * k) 4

-- and in the books of all three sites, where the numbers of site s begin at 64s
abbrev pub account_of_all : Board → (site k : ℕ) → Trial
account_of_all b site k = part_of_all b (lent 3) (64 * site + 4 * k) 4

abbrev pub four : (position rate called settled : ℤ) → Result
four position rate called settled = numbers (position ∷ rate ∷ called ∷ settled ∷ [])

-- ---- the tables

unfoldable pub figures : List Case
figures =
    -- TRADE: the position of 1 rises, of 2 falls, by the amount; the books are those of a site that is down
    account parted 2 1 gives four (pos 1001) (pos 0) (pos 0) (pos 0)
    ∷ account parted 2 2 gives four (neg_ℤ (pos 1001)) (pos 0) (pos 0) (pos 0)
    -- RATE: the rate of 1 becomes the amount
    ∷ account parted 0 1 gives four (pos 1001) (pos 250) (pos 0) (pos 0)
    -- an empty record: zeros
    ∷ account parted 1 1 gives four (pos 0) (pos 0) (pos 0) (pos 0)
    -- CALL: with each of the two called of 1 rises by the size of 1001 × 250 ÷ 10,000, which is 25.025, rounded up
    ∷ account after_calls 1 1 gives four (pos 1001) (pos 250) (pos 52) (pos 0)
    -- NET: settled of 1 rises by its position, which becomes 0; settled of 2, which sold, by a negative one
    ∷ account after_nets 1 1 gives four (pos 0) (pos 250) (pos 52) (pos 1001)
    ∷ account after_nets 1 2 gives four (pos 0) (pos 0) (pos 0) (neg_ℤ (pos 1001))
    -- the whole slice: account 0; 1; 2; 3 to 15; what lies beyond stays
    ∷ part after_nets 0 (lent 1) 0 to_end
    gives numbers
    (pos 0 ∷ pos 0 ∷ pos 0 ∷ pos 0
    ∷ pos 0 ∷ pos 250 ∷ pos 52 ∷ pos 1001
    ∷ pos 0 ∷ pos 0 ∷ pos 0 ∷ neg_ℤ (pos 1001)
    ∷ (replicate 52 (pos 0) ++ (pos 8 ∷ pos 9 ∷ [])))
    -- NET 255: settled of every account rises by its position, which becomes 0; the sums come to 0
    ∷ part after_net_of_all 1 (lent 1) 0 to_end
    gives numbers
    (pos 0 ∷ pos 0 ∷ pos 0 ∷ pos 0
    ∷ pos 0 ∷ pos 250 ∷ pos 52 ∷ pos 1001
    ∷ pos 0 ∷ pos 0 ∷ pos 0 ∷ neg_ℤ (pos 1001)
    ∷ pos 0 ∷ pos 0 ∷ pos 0 ∷ neg_ℤ (pos 500)
    ∷ (replicate 44 (pos 0) ++ (pos 0 ∷ pos 0 ∷ pos 0 ∷ pos 500 ∷ pos 8 ∷ pos 9 ∷ [])))
    -- a second one changes nothing more
    ∷ part netted_again 1 (lent 1) 0 to_end
    gives numbers
    (pos 0 ∷ pos 0 ∷ pos 0 ∷ pos 0
    ∷ pos 0 ∷ pos 250 ∷ pos 52 ∷ pos 1001
    ∷ pos 0 ∷ pos 0 ∷ pos 0 ∷ neg_ℤ (pos 1001)
    ∷ pos 0 ∷ pos 0 ∷ pos 0 ∷ neg_ℤ (pos 500)
    ∷ (replicate 44 (pos 0) ++ (pos 0 ∷ pos 0 ∷ pos 0 ∷ pos 500 ∷ pos 8 ∷ pos 9 ∷ [])))
    -- all sites: account 1 of site 0, of 1, of 2; what lies beyond stays
    ∷ account_of_all parted 0 1 gives four (pos 1001) (pos 250) (pos 0) (pos 0)
    ∷ account_of_all parted 1 1 gives four (pos 0) (pos 0) (pos 0) (pos 0)
    ∷ account_of_all parted 2 1 gives four (pos 1001) (pos 0) (pos 0) (pos 0)
    ∷ part_of_all parted (lent 3) 192 to_end gives numbers (pos 8 ∷ pos 9 ∷ [])
    -- shorter than 64, and than 192: refused, and the slice stays
    ∷ part parted 0 (replicate 63 (pos 7)) 0 to_end gives numbers (replicate 63 (pos 7))
    ∷ part_of_all parted (replicate 191 (pos 7)) 0 to_end gives numbers (replicate 191 (pos 7))
    ∷ []

-- account 1 called again as its position crosses zero
unfoldable pub margins : List Case
margins =
    -- at −1001: nothing more, and nothing back
    account after_sale 1 1 gives four (neg_ℤ (pos 1001)) (pos 250) (pos 52) (pos 0)
    -- at 1: 0.025, rounded up
    ∷ account after_purchase 1 1 gives four (pos 1) (pos 250) (pos 53) (pos 0)
    ∷ []

-- one account at a time
unfoldable pub accounts : List Case
accounts =
    -- sites 0 and 1 hold the same postings touching 1, and touching 2: the same numbers, from records 0 1 2 and 2 0
    account apart 0 1 gives four (pos 1001) (pos 250) (pos 0) (pos 0)
    ∷ account apart 1 1 gives four (pos 1001) (pos 250) (pos 0) (pos 0)
    ∷ account apart 0 2 gives four (neg_ℤ (pos 1001)) (pos 0) (pos 0) (pos 0)
    ∷ account apart 1 2 gives four (neg_ℤ (pos 1001)) (pos 0) (pos 0) (pos 0)
    -- site 1 lacks the one that touches 3
    ∷ account apart 0 3 gives four (pos 500) (pos 0) (pos 0) (pos 0)
    ∷ account apart 1 3 gives four (pos 0) (pos 0) (pos 0) (pos 0)
    ∷ []
