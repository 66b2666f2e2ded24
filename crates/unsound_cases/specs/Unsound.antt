-- Boards unsound in each way that document 01 lists under refusal 6, one thing changed at a time, and odd ones that are sound.
-- Rests on cases: Trials, and Boards for calls and boards.
use Rattle.std.specs.Prelude.{ℕ, suc, ◌-◌, ◌*◌, true, false, List, [], ◌∷◌, set, replicate}
use Rattle.sets.specs.declared.Set.{Set}
use Rattle.sets.specs.Sets.{words, capacity, empty_set, of_words, with, members_of}
use Rattle.posting.specs.declared.Posting.{Posting}
use Rattle.posting.specs.declared.Record.{Record}
use Rattle.posting.specs.Kinds.{trade, rate, call, net, every_account}
use Rattle.site.specs.declared.Setup.{Setup}
use Rattle.site.specs.declared.Site.{Site}
use Rattle.site.specs.declared.Tally.{Tally}
use Rattle.site.specs.Sites.{site_seen, site_heard, site_stepped, site_finished, site_got, site_place, site_delivered}
use Rattle.site.specs.Sends.{FIRST, THIRD, DELIVER}
use Rattle.flight.specs.declared.Flight.{Flight}
use Rattle.flight.specs.Flights.{pair_at, cell_at}
use Rattle.machine.specs.declared.Board.{Board}
use Rattle.machine.specs.Boards.{fresh_board, blank_board, site_at, tally_at, board_table, board_flight, board_site, board_down, board_pool}
use Rattle.cases.specs.Trials.{sound, said, Case, ◌gives◌}
use Rattle.cases.specs.Boards.{offered_board, busy}

-- ---- what boards are made of

-- a fresh board
abbrev pub fresh : ℕ → ℕ → ℕ → Board
fresh n f matrix = fresh_board (record { n = n; f = f; matrix = matrix })

-- the set of one posting
abbrev pub only : ℕ → Set
only m = with empty_set m

-- the set of every number below the capacity
abbrev pub everything : Set
everything = of_words (replicate words 0xFFFFFFFFFFFFFFFF)

-- a list of postings: its count, and what stands in its first two places
abbrev pub list_of : ℕ → ℕ → ℕ → Record
list_of count m x = record { count = count; numbers = m ∷ x ∷ replicate (capacity - 2) 0 }

-- as many postings as there is room for, and a record of all of them whose count is this
abbrev pub full_record : ℕ → Board
full_record count =
    let b = offered_board capacity in
    board_site b 0 (site_delivered (site_at b 0) (record { count = count; numbers = members_of everything })) 0 (tally_at b 0)

-- ---- one thing changed on `busy`, of which the table is a function, so that this board is evaluated once

module _ (busy : Board) where
  -- a row of the table
  abbrev pub busy_row : ℕ → Posting → Board
  busy_row m p = board_table busy (record { count = busy.table.count; rows = set busy.table.rows m p })

  -- the row of posting 2, by its owner, kind, a, b, amount
  abbrev pub busy_net : ℕ → ℕ → ℕ → ℕ → ℕ → Board
  busy_net owner kind account other amount =
      busy_row 2 (record { owner = owner; kind = kind; a = account; b = other; amount = amount })

  -- a site
  abbrev pub busy_site : ℕ → (Site → Site) → Board
  busy_site p change = board_site busy p (change (site_at busy p)) 0 (tally_at busy 0)

  -- the tally of a posting
  abbrev pub busy_tally : ℕ → ℕ → ℕ → Set → Board
  busy_tally m heard has union = board_site busy 0 (site_at busy 0) m (record { heard = heard; has = has; union = union })

  -- the receivers of a form, posting and sender
  abbrev pub busy_to : ℕ → ℕ → ℕ → ℕ → Board
  busy_to form m from mask =
      board_flight busy
      (record {
        masks = set busy.flight.masks (cell_at form m from) mask;
        good = busy.flight.good;
        carried = busy.flight.carried;
      })

  -- those to whom a SECOND says GOOD
  abbrev pub busy_good : ℕ → ℕ → ℕ → Board
  busy_good m from mask =
      board_flight busy
      (record {
        masks = busy.flight.masks;
        good = set busy.flight.good (pair_at m from) mask;
        carried = busy.flight.carried;
      })

  -- the set that a THIRD carries, its first word
  abbrev pub busy_carried : ℕ → ℕ → ℕ → Board
  busy_carried m from word =
      board_flight busy
      (record {
        masks = busy.flight.masks;
        good = busy.flight.good;
        carried = set busy.flight.carried (words * pair_at m from) word;
      })

  abbrev pub busy_pool : Set → Board
  busy_pool pool = board_pool busy pool busy.entries busy.log

  -- the set of a posting's entry
  abbrev pub busy_entry : ℕ → Set → Board
  busy_entry m carried = board_pool busy busy.pool (set busy.entries m carried) busy.log

  abbrev pub busy_log : Record → Board
  busy_log log = board_pool busy busy.pool busy.entries log

  -- ---- the table

  unfoldable pub unsound_of : List Case
  unsound_of =
      -- n as in 2
      sound blank_board gives said false
      ∷ sound (fresh 2 0 0x5B6C) gives said false
      ∷ sound (fresh 3 1 0x5B6C) gives said true
      ∷ sound (fresh 7 3 0xFFFF) gives said true
      ∷ sound (fresh 8 3 0x5B6C) gives said false
      -- f as in 3
      ∷ sound (fresh 3 2 0x5B6C) gives said false
      ∷ sound (fresh 4 2 0x5B6C) gives said false
      -- the matrix as in 4: 0-1 is yes, 1-0 is not
      ∷ sound (fresh 3 1 0x5B6E) gives said false
      -- the matrix as in 5: it lacks 0-2; 0-3; 1-1; 1-2; 2-3
      ∷ sound (fresh 3 1 0x5A68) gives said false
      ∷ sound (fresh 3 1 0x4B64) gives said false
      ∷ sound (fresh 3 1 0x5B4C) gives said false
      ∷ sound (fresh 3 1 0x592C) gives said false
      ∷ sound (fresh 3 1 0x136C) gives said false
      -- the board that is changed below
      ∷ sound busy gives said true
      -- an owner out of range
      ∷ sound (busy_net 3 net 5 5 0) gives said false
      -- posting fields out of range: kind, a, b
      ∷ sound (busy_net 2 4 5 5 0) gives said false
      ∷ sound (busy_net 2 trade 16 5 1) gives said false
      ∷ sound (busy_net 2 trade 5 16 1) gives said false
      -- TRADE: a ≠ b, amount 1 to 1,000,000,000
      ∷ sound (busy_net 2 trade 5 5 1) gives said false
      ∷ sound (busy_net 2 trade 5 6 0) gives said false
      ∷ sound (busy_net 2 trade 5 6 1_000_000_000) gives said true
      ∷ sound (busy_net 2 trade 5 6 1_000_000_001) gives said false
      -- RATE: b = a, amount 0 to 10,000
      ∷ sound (busy_net 2 rate 5 6 250) gives said false
      ∷ sound (busy_net 2 rate 5 5 10_000) gives said true
      ∷ sound (busy_net 2 rate 5 5 10_001) gives said false
      -- CALL and NET: b = a, amount 0
      ∷ sound (busy_net 2 call 5 6 0) gives said false
      ∷ sound (busy_net 2 call 5 5 1) gives said false
      ∷ sound (busy_net 2 net 5 6 0) gives said false
      ∷ sound (busy_net 2 net 5 5 1) gives said false
      -- 255: of a NET alone, as both accounts, with amount 0
      ∷ sound (busy_net 2 net every_account every_account 0) gives said true
      ∷ sound (busy_net 2 net every_account 5 0) gives said false
      ∷ sound (busy_net 2 net 5 every_account 0) gives said false
      ∷ sound (busy_net 2 net every_account every_account 1) gives said false
      ∷ sound (busy_net 2 trade every_account 1 1000) gives said false
      ∷ sound (busy_net 2 trade 1 every_account 1000) gives said false
      ∷ sound (busy_net 2 rate every_account every_account 250) gives said false
      ∷ sound (busy_net 2 call every_account every_account 0) gives said false
      ∷ sound (busy_net 2 net 16 16 0) gives said false
      ∷ sound (busy_net 2 net 254 254 0) gives said false
      -- a THIRD in flight not to its owner; or to its owner and another
      ∷ sound (busy_to THIRD 0 1 2) gives said false
      ∷ sound (busy_to THIRD 0 1 3) gives said false
      -- more postings than there is room for
      ∷ sound (offered_board capacity) gives said true
      ∷ sound (offered_board (suc capacity)) gives said false
      -- a set naming a posting not offered: of a site, in each of the four words
      ∷ sound (busy_site 1 (λ s. site_seen s (with s.seen 3))) gives said false
      ∷ sound (busy_site 1 (λ s. site_seen s (with s.seen 64))) gives said false
      ∷ sound (busy_site 1 (λ s. site_seen s (with s.seen (capacity - 1)))) gives said false
      ∷ sound (busy_site 1 (λ s. site_stepped s s.seen s.stepped (with s.held 3))) gives said false
      ∷ sound (busy_site 1 (λ s. site_stepped s s.seen s.stepped (with s.held 128))) gives said false
      ∷ sound (busy_site 1 (λ s. site_stepped s s.seen (with s.stepped 3) s.held)) gives said false
      ∷ sound (busy_site 1 (λ s. site_finished s (with s.finished 3))) gives said false
      ∷ sound (busy_site 1 (λ s. site_got s (with s.got 3))) gives said false
      -- what it has received of it: SECOND, GOOD
      ∷ sound (busy_site 1 (λ s. site_heard s 3 1 0)) gives said false
      ∷ sound (busy_site 1 (λ s. site_heard s 3 0 1)) gives said false
      -- THIRD, one that has it, a set for it; a set that names it
      ∷ sound (busy_tally 3 1 0 empty_set) gives said false
      ∷ sound (busy_tally 3 0 1 empty_set) gives said false
      ∷ sound (busy_tally 3 0 0 (only 0)) gives said false
      ∷ sound (busy_tally 2 1 0 (only 3)) gives said false
      -- the pool; the set of an entry in the pool; in the log
      ∷ sound (busy_pool (with busy.pool 3)) gives said false
      ∷ sound (busy_entry 1 (only 3)) gives said false
      ∷ sound (busy_entry 0 (only 3)) gives said false
      -- in flight: the posting of a message; the set that a THIRD carries
      ∷ sound (busy_to FIRST 3 0 1) gives said false
      ∷ sound (busy_to DELIVER (capacity - 1) 2 4) gives said false
      ∷ sound (busy_carried 0 1 8) gives said false
      -- a list naming a posting not offered: a record; the log; a count past the capacity
      ∷ sound (busy_site 0 (λ s. site_delivered s (list_of 2 0 3))) gives said false
      ∷ sound (busy_site 0 (λ s. site_delivered s (list_of 2 0 255))) gives said false
      ∷ sound (full_record capacity) gives said true
      ∷ sound (full_record (suc capacity)) gives said false
      ∷ sound (busy_log (list_of 2 0 3)) gives said false
      ∷ sound (busy_log (list_of (suc capacity) 0 2)) gives said false
      -- a set naming a site of n or more: those down; SECOND, GOOD heard; THIRD heard, with it
      ∷ sound (board_down busy 8) gives said false
      ∷ sound (busy_site 1 (λ s. site_heard s 2 8 0)) gives said false
      ∷ sound (busy_site 1 (λ s. site_heard s 2 0 8)) gives said false
      ∷ sound (busy_tally 2 8 0 empty_set) gives said false
      ∷ sound (busy_tally 2 0 8 empty_set) gives said false
      -- in flight: a receiver; a sender
      ∷ sound (busy_to FIRST 2 2 8) gives said false
      ∷ sound (busy_to FIRST 2 3 1) gives said false
      -- a record, the log naming one twice
      ∷ sound (busy_site 0 (λ s. site_delivered s (list_of 2 0 0))) gives said false
      ∷ sound (busy_log (list_of 2 0 0)) gives said false
      -- a log place past the log
      ∷ sound (busy_site 1 (λ s. site_place s 1)) gives said true
      ∷ sound (busy_site 1 (λ s. site_place s 2)) gives said false
      -- a pool posting, a log posting not finished by its owner
      ∷ sound (busy_pool (with busy.pool 2)) gives said false
      ∷ sound (busy_log (list_of 2 0 2)) gives said false
      -- and one finished by another
      ∷ sound (board_site (busy_pool (with busy.pool 2)) 1 (site_finished (site_at busy 1) (only 2)) 0 (tally_at busy 0)) gives said false
      ∷ sound (board_site (busy_pool (with busy.pool 2)) 2 (site_finished (site_at busy 2) (only 2)) 0 (tally_at busy 0)) gives said true
      -- one in both
      ∷ sound (busy_pool (with busy.pool 0)) gives said false
      -- Odd, but none of these: more than f down
      ∷ sound (board_down busy 7) gives said true
      -- held and not stepped, stepped and not heard, got and not delivered, finished at another than the owner
      ∷ sound (busy_site 1 (λ s. site_stepped s s.seen s.stepped (with s.held 2))) gives said true
      ∷ sound (busy_site 1 (λ s. site_stepped s s.seen (with s.stepped 2) s.held)) gives said true
      ∷ sound (busy_site 1 (λ s. site_got s (with s.got 2))) gives said true
      ∷ sound (busy_site 1 (λ s. site_finished s (with s.finished 2))) gives said true
      -- GOOD from one not heard; a set that has the posting from one not heard; a union of none
      ∷ sound (busy_site 1 (λ s. site_heard s 2 0 7)) gives said true
      ∷ sound (busy_tally 2 0 7 (only 1)) gives said true
      -- messages that no step sends
      ∷ sound (busy_to FIRST 2 0 7) gives said true
      ∷ sound (busy_to DELIVER 1 2 7) gives said true
      ∷ sound (busy_to THIRD 2 2 4) gives said true
      -- Cells that hold nothing live: rows past the count, places past the end of a record and of the log
      ∷ sound (busy_row 3 (record { owner = 9; kind = 9; a = 99; b = 99; amount = 9 })) gives said true
      ∷ sound (busy_site 0 (λ s. site_delivered s (list_of 1 0 255))) gives said true
      ∷ sound (busy_log (list_of 1 0 255)) gives said true
      -- sites from n on
      ∷ sound (busy_site 3 (λ s. site_stepped s everything everything everything)) gives said true
      ∷ sound (busy_site 6 (λ s. site_place s capacity)) gives said true
      -- a GOOD bit and a carried set with no such message, an entry's set in neither pool nor log
      ∷ sound (busy_good (capacity - 1) 6 255) gives said true
      ∷ sound (busy_carried (capacity - 1) 6 0xFFFFFFFFFFFFFFFF) gives said true
      ∷ sound (busy_entry 2 everything) gives said true
      ∷ []

-- the table of the board `busy`
unfoldable pub unsound : List Case
unsound = unsound_of busy
