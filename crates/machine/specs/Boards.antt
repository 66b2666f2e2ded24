-- A board's parts: the blank board, the board of an accepted start, and a board with some of its parts changed.
-- Rests on the declared types of this crate, on flight, site, posting and sets.
use Rattle.std.specs.Prelude.{ℕ, Bool, not, ◌&&◌, List, ltb, get_or, set, replicate}
use Rattle.sets.specs.declared.Set.{Set}
use Rattle.sets.specs.Masks.{has_bit}
use Rattle.sets.specs.Sets.{capacity, empty_set}
use Rattle.posting.specs.declared.Table.{Table}
use Rattle.posting.specs.declared.Record.{Record}
use Rattle.posting.specs.Conflicts.{empty_table}
use Rattle.posting.specs.Records.{empty_record}
use Rattle.site.specs.declared.Setup.{Setup}
use Rattle.site.specs.declared.Site.{Site}
use Rattle.site.specs.declared.Tally.{Tally}
use Rattle.site.specs.Sites.{sites, blank_site, blank_tally, no_set, no_site, no_tally}
use Rattle.flight.specs.declared.Flight.{Flight}
use Rattle.flight.specs.Flights.{empty_flight}
use Rattle.machine.specs.declared.Board.{Board}

-- ---- boards to begin with

-- nothing offered, nothing sent, all sites up
abbrev pub fresh_board : Setup → Board
fresh_board setup =
    record { setup = setup; down = 0; table = empty_table; sites = replicate sites blank_site; tallies = replicate capacity blank_tally; flight = empty_flight; pool = empty_set; entries = replicate capacity empty_set; log = empty_record }

-- the blank board, all zeros
abbrev pub blank_board : Board
blank_board = fresh_board (record { n = 0; f = 0; matrix = 0 })

-- ---- what a board has

abbrev pub site_at : Board → ℕ → Site
site_at b p = get_or b.sites p no_site

abbrev pub tally_at : Board → ℕ → Tally
tally_at b m = get_or b.tallies m no_tally

-- the set of m's entry
abbrev pub entry_at : Board → ℕ → Set
entry_at b m = get_or b.entries m no_set

-- the posting of the log's entry i
abbrev pub logged_at : Board → ℕ → ℕ
logged_at b i = get_or b.log.numbers i 0

abbrev pub is_down : Board → ℕ → Bool
is_down b p = has_bit b.down p

-- a site of the board that is up
abbrev pub is_up : Board → ℕ → Bool
is_up b p = ltb p b.setup.n && not (is_down b p)

-- ---- a board with some of its parts changed

abbrev pub board_table : Board → Table → Board
board_table b table =
    record { setup = b.setup; down = b.down; table = table; sites = b.sites; tallies = b.tallies; flight = b.flight; pool = b.pool; entries = b.entries; log = b.log }

abbrev pub board_flight : Board → Flight → Board
board_flight b flight =
    record { setup = b.setup; down = b.down; table = b.table; sites = b.sites; tallies = b.tallies; flight = flight; pool = b.pool; entries = b.entries; log = b.log }

-- what belongs to site p, and its tally of m
abbrev pub board_site : Board → ℕ → Site → ℕ → Tally → Board
board_site b p site m tally =
    record { setup = b.setup; down = b.down; table = b.table; sites = set b.sites p site; tallies = set b.tallies m tally; flight = b.flight; pool = b.pool; entries = b.entries; log = b.log }

abbrev pub board_down : Board → ℕ → Board
board_down b down =
    record { setup = b.setup; down = down; table = b.table; sites = b.sites; tallies = b.tallies; flight = b.flight; pool = b.pool; entries = b.entries; log = b.log }

abbrev pub board_pool : Board → Set → List Set → Record → Board
board_pool b pool entries log =
    record { setup = b.setup; down = b.down; table = b.table; sites = b.sites; tallies = b.tallies; flight = b.flight; pool = pool; entries = entries; log = log }
