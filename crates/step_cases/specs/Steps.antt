-- What the marked cases do not reach: a NET of every account, a SECOND that overtakes FIRST, and what a cut leaves of a step.
-- Rests on cases: Trials, and Boards for calls and boards.
use Rattle.std.specs.Prelude.{true, false, List, [], ◌∷◌, ◌++◌}
use Rattle.posting.specs.Kinds.{trade, net, every_account}
use Rattle.site.specs.Sends.{FIRST, SECOND, THIRD, DELIVER}
use Rattle.steps.specs.declared.Cut.TheVariants.{Whole, After}
use Rattle.steps.specs.declared.Call.{Call}
use Rattle.steps.specs.declared.Call.TheVariants.{Offer, Receive, Order, Read}
use Rattle.cases.specs.Trials.{Entry, View, conflicts, look, said, left, Case, ◌gives◌}
use Rattle.cases.specs.Cases.{a_trade, a_rate, a_net}
use Rattle.cases.specs.Boards.{began, arrives, offers, two_offers, to_pool, to_deliver, rate_delivers, busy}

-- RATE's SECONDs from 0 and 1 reach site 2 before any FIRST, so that it steps RATE; then CALL's FIRST reaches it; sites 1 and 2 step CALL on
-- what 1 and 2 said of it, and site 1 receives their THIRDs
abbrev pub overtaken : List Call
overtaken =
    two_offers
    ++ (arrives FIRST 0 0 0 ∷ arrives FIRST 1 1 1 ∷ arrives FIRST 0 0 1
    ∷ arrives SECOND 0 0 2 ∷ arrives SECOND 0 1 2
    ∷ arrives FIRST 1 1 2
    ∷ arrives SECOND 1 1 1 ∷ arrives SECOND 1 2 1 ∷ arrives SECOND 1 1 2 ∷ arrives SECOND 1 2 2
    ∷ arrives THIRD 1 1 1 ∷ arrives THIRD 1 2 1
    ∷ [])

-- Sites 0 and 1 offer TRADEs on different accounts, site 2 a NET of every account. Sites 0 and 1 step both TRADEs on what 0 and 1 said, and
-- each owner receives their THIRDs; site 2 gets the NET's FIRST first. Then the NET's FIRSTs reach sites 0 and 1, sites 0 and 2 step it on
-- what 0 and 2 said of it, and site 2 receives their THIRDs.
abbrev pub netted : List Call
netted =
    Offer 0 trade 1 2 1000 Whole ∷ Offer 1 trade 3 4 1000 Whole ∷ Offer 2 net every_account every_account 0 Whole
    ∷ arrives FIRST 2 2 2
    ∷ arrives FIRST 0 0 0 ∷ arrives FIRST 0 0 1 ∷ arrives FIRST 1 1 0 ∷ arrives FIRST 1 1 1
    ∷ arrives SECOND 0 0 0 ∷ arrives SECOND 0 1 0 ∷ arrives SECOND 0 0 1 ∷ arrives SECOND 0 1 1
    ∷ arrives SECOND 1 0 0 ∷ arrives SECOND 1 1 0 ∷ arrives SECOND 1 0 1 ∷ arrives SECOND 1 1 1
    ∷ arrives THIRD 0 0 0 ∷ arrives THIRD 0 1 0 ∷ arrives THIRD 1 0 1 ∷ arrives THIRD 1 1 1
    ∷ arrives FIRST 2 2 0 ∷ arrives FIRST 2 2 1
    ∷ arrives SECOND 2 0 2 ∷ arrives SECOND 2 2 2 ∷ arrives SECOND 2 0 0 ∷ arrives SECOND 2 2 0
    ∷ arrives THIRD 2 0 2 ∷ arrives THIRD 2 2 2
    ∷ []

unfoldable pub steps : List Case
steps =
    -- NET 255 shares an account with every posting; the matrix decides by kind: 3-0 is yes, 3-1 and 3-3 are no unless all are yes
    conflicts 0x5B6C (a_net every_account) (a_trade 1 2) gives said true
    ∷ conflicts 0x5B6C (a_trade 1 2) (a_net every_account) gives said true
    ∷ conflicts 0x5B6C (a_net every_account) (a_rate 4) gives said false
    ∷ conflicts 0x5B6C (a_net every_account) (a_net 4) gives said false
    ∷ conflicts 0x5B6C (a_net every_account) (a_net every_account) gives said false
    ∷ conflicts 0xFFFF (a_net every_account) (a_rate 4) gives said true
    ∷ conflicts 0xFFFF (a_rate 4) (a_net every_account) gives said true
    ∷ conflicts 0xFFFF (a_net every_account) (a_net 4) gives said true
    ∷ conflicts 0xFFFF (a_net every_account) (a_net every_account) gives said true
    -- the TRADEs go by DELIVER, and the NET's entry carries both
    ∷ look began netted 0
    gives left
    (record {
      down = [];
      delivers = 0 ∷ 1 ∷ [];
      pool = record { posting = 2; carries = 0 ∷ 1 ∷ [] } ∷ [];
      log = [];
      places = 0 ∷ 0 ∷ 0 ∷ [];
      records = [] ∷ [] ∷ [] ∷ [];
      quiet = false;
    })
    -- a site that reads the entry before any DELIVER posts the TRADEs first
    ∷ look began (netted ++ (Order 2 ∷ Read 1 Whole ∷ [])) 0
    gives left
    (record {
      down = [];
      delivers = 0 ∷ 1 ∷ [];
      pool = [];
      log = record { posting = 2; carries = 0 ∷ 1 ∷ [] } ∷ [];
      places = 0 ∷ 1 ∷ 0 ∷ [];
      records = [] ∷ (0 ∷ 1 ∷ 2 ∷ []) ∷ [] ∷ [];
      quiet = false;
    })
    -- RATE is seen by site 2 at its SECOND step, so site 2 says BAD of CALL, and holds neither
    ∷ look began overtaken 0
    gives left
    (record {
      down = [];
      delivers = [];
      pool = record { posting = 1; carries = [] } ∷ [];
      log = [];
      places = 0 ∷ 0 ∷ 0 ∷ [];
      records = [] ∷ [] ∷ [] ∷ [];
      quiet = false;
    })
    -- an offer cut after 1: the one FIRST is to its own site, which is down; after 2 there is one to site 1
    ∷ look began (offers 0 (After 1) ∷ []) 0
    gives left
    (record {
      down = 0 ∷ [];
      delivers = [];
      pool = [];
      log = [];
      places = 0 ∷ 0 ∷ 0 ∷ [];
      records = [] ∷ [] ∷ [] ∷ [];
      quiet = true;
    })
    ∷ look began (offers 0 (After 2) ∷ []) 0
    gives left
    (record {
      down = 0 ∷ [];
      delivers = [];
      pool = [];
      log = [];
      places = 0 ∷ 0 ∷ 0 ∷ [];
      records = [] ∷ [] ∷ [] ∷ [];
      quiet = false;
    })
    -- the THIRD with which an entry goes into the pool, cut after 0 and after 1
    ∷ look to_pool (Receive THIRD 0 2 0 (After 0) ∷ []) 0
    gives left
    (record {
      down = 0 ∷ [];
      delivers = [];
      pool = [];
      log = [];
      places = 0 ∷ 0 ∷ 0 ∷ [];
      records = [] ∷ [] ∷ [] ∷ [];
      quiet = false;
    })
    ∷ look to_pool (Receive THIRD 0 2 0 (After 1) ∷ []) 0
    gives left
    (record {
      down = 0 ∷ [];
      delivers = [];
      pool = record { posting = 0; carries = [] } ∷ [];
      log = [];
      places = 0 ∷ 0 ∷ 0 ∷ [];
      records = [] ∷ [] ∷ [] ∷ [];
      quiet = false;
    })
    -- DELIVER goes to sites 0 and 1 alone: site 1 relays it to site 2, and the site that is down delivers nothing
    ∷ look to_deliver (Receive THIRD 0 2 0 (After 2) ∷ arrives DELIVER 0 0 1 ∷ arrives DELIVER 0 1 2 ∷ []) 0
    gives left
    (record {
      down = 0 ∷ [];
      delivers = 0 ∷ [];
      pool = [];
      log = [];
      places = 0 ∷ 0 ∷ 0 ∷ [];
      records = [] ∷ (0 ∷ []) ∷ (0 ∷ []) ∷ [];
      quiet = false;
    })
    -- a DELIVER cut after all of its relays delivers nothing
    ∷ look rate_delivers (Receive DELIVER 0 0 1 (After 2) ∷ arrives DELIVER 0 1 2 ∷ []) 0
    gives left
    (record {
      down = 1 ∷ [];
      delivers = 0 ∷ [];
      pool = [];
      log = [];
      places = 0 ∷ 0 ∷ 0 ∷ [];
      records = [] ∷ [] ∷ (0 ∷ []) ∷ [];
      quiet = false;
    })
    -- a cut read delivers nothing, and its log place moves
    ∷ look busy (Read 1 (After 0) ∷ []) 0
    gives left
    (record {
      down = 1 ∷ [];
      delivers = [];
      pool = record { posting = 1; carries = [] } ∷ [];
      log = record { posting = 0; carries = [] } ∷ [];
      places = 1 ∷ 1 ∷ 0 ∷ [];
      records = (0 ∷ []) ∷ [] ∷ [] ∷ [];
      quiet = false;
    })
    ∷ []
