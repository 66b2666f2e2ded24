-- What every value of the board's types is: its arrays have their lengths, its numbers are below their widths. The checker tells it of each parameter.
-- In order: what fits, of each type; is-.. : a value of the type fits; site_shape, board_shape: what fits has machine's shape. Rests on machine's Shapes. Assumes nothing.
use Prim.Native.Nat.{ℕ, zero, suc, ◌^◌, ◌<◌}
use mathlib.Core.Path.{◌≡◌, sym, ◌∙◌}
use mathlib.Core.List.{List, [], ◌∷◌, map}
use native.Mathlib.Omega.{arith}
use lib.ListN.{length, length-map, get_or, get_or-map}
use mir.Val.{Val}
use denote.RattleType.{RattleType}
use denote.Builtin.{u8, u64}
use denote.Shadow.{shadow}
use denote.Array.{each, Array}
use denote.Laws.{Is}
use Rattle.sets.specs.declared.Set.{Set}
use Rattle.sets.specs.Words.{Words}
use Rattle.sets.specs.Sets.{words, capacity, Shape}
use Rattle.posting.specs.declared.Posting.{Posting}
use Rattle.posting.specs.declared.Record.{Record}
use Rattle.posting.specs.Conflicts.{no_posting}
use Rattle.site.specs.declared.Setup.{Setup}
use Rattle.site.specs.declared.Site.{Site}
use Rattle.site.specs.declared.Tally.{Tally}
use Rattle.site.specs.Sites.{sites, no_site, no_tally, no_set}
use Rattle.flight.specs.declared.Flight.{Flight}
use Rattle.flight.specs.Flights.{cells, pairs}
use Rattle.flight.specs.Shapes.{Shape as FlightShape}
use Rattle.flight.specs.Shapes.{Bytes}
use Rattle.sets.specs.contracts.Set as set-type
use Rattle.posting.specs.contracts.Posting as posting-type
use Rattle.posting.specs.contracts.Record as record-type
use Rattle.site.specs.contracts.Setup as setup-type
use Rattle.site.specs.contracts.Site as site-type
use Rattle.site.specs.contracts.Tally as tally-type
use Rattle.flight.specs.contracts.Flight as flight-type
use Rattle.machine.specs.declared.Board.{Board}
use Rattle.machine.proofs.Shapes.{SiteShape, BoardShape}
use Rattle.machine.specs.contracts.Board as board-type

-- ---- what fits

pub record SetupFits (s : Setup) : Type 0 where
  pub n : s.n < 2 ^ 8
  pub f : s.f < 2 ^ 8
  pub matrix : s.matrix < 2 ^ 16

pub record RowFits (p : Posting) : Type 0 where
  pub owner : p.owner < 2 ^ 8
  pub kind : p.kind < 2 ^ 8
  pub a : p.a < 2 ^ 8
  pub b : p.b < 2 ^ 8
  pub amount : p.amount < 2 ^ 32

pub record RecordFits (r : Record) : Type 0 where
  pub count : r.count < 2 ^ 64
  pub numbers : Bytes capacity r.numbers

pub record SiteFits (s : Site) : Type 0 where
  pub seen : Shape s.seen
  pub held : Shape s.held
  pub stepped : Shape s.stepped
  pub finished : Shape s.finished
  pub got : Shape s.got
  pub heard : Bytes capacity s.heard
  pub good : Bytes capacity s.good
  pub place : s.place < 2 ^ 64
  pub delivered : RecordFits s.delivered

pub record TallyFits (y : Tally) : Type 0 where
  pub heard : y.heard < 2 ^ 8
  pub has : y.has < 2 ^ 8
  pub union : Shape y.union

pub record BoardFits (b : Board) : Type 0 where
  pub setup : SetupFits b.setup
  pub down : b.down < 2 ^ 8
  pub count : b.table.count < 2 ^ 64
  pub rows_long : length b.table.rows ≡ capacity
  pub sites_long : length b.sites ≡ sites
  pub tallies_long : length b.tallies ≡ capacity
  pub entries_long : length b.entries ≡ capacity
  pub each_row : (m : ℕ) → m < capacity → RowFits (get_or b.table.rows m no_posting)
  pub each_site : (p : ℕ) → p < sites → SiteFits (get_or b.sites p no_site)
  pub each_tally : (m : ℕ) → m < capacity → TallyFits (get_or b.tallies m no_tally)
  pub each_entry : (m : ℕ) → m < capacity → Shape (get_or b.entries m no_set)
  pub flight : FlightShape b.flight
  pub pool : Shape b.pool
  pub log : RecordFits b.log

-- ---- arrays

-- each element of an array is of the elements' type
each_at : (R : RattleType) (xs : List R.Denot) (us : List Val) → shadow (each R.Denot R.own_val xs us) → (i : ℕ) (d : R.Denot) → i < length xs
    → (u : Val) × Is R (get_or xs i d) (u ∷ [])
each_at R [] us g i d h = absurd (omega arith)
each_at R (x ∷ xs) [] g i d h = absurd g
each_at R (x ∷ xs) (u ∷ us) g zero d h = (u, g.0)
each_at R (x ∷ xs) (u ∷ us) g (suc i) d h = each_at R xs us g.1 i d (omega arith)

-- a field that is an array
module _ (R : RattleType) (n : ℕ) (xs : List R.Denot) (vs : List Val) (g : Is (Array R n) xs vs) where
  array_long : length xs ≡ n
  array_long = g.1.0.1

  array_at : (i : ℕ) (d : R.Denot) → i < n → (u : Val) × Is R (get_or xs i d) (u ∷ [])
  array_at i d h = each_at R xs g.0 g.1.1 i d (omega (arith, g.1.0.1))

-- of words, and of bytes
is_words : (n : ℕ) (ws : List ℕ) (vs : List Val) → Is (Array u64 n) ws vs → Words n ws
is_words n ws vs g = record { long = array_long u64 n ws vs g; small = λ i h. (array_at u64 n ws vs g i 0 h).1.1 }

is_bytes : (n : ℕ) (ws : List ℕ) (vs : List Val) → Is (Array u8 n) ws vs → Bytes n ws
is_bytes n ws vs g = record { long = array_long u8 n ws vs g; small = λ i h. (array_at u8 n ws vs g i 0 h).1.1 }

-- ---- structs

is_setup : (s : Setup) (vs : List Val) → Is setup-type.the_row s vs → SetupFits s
is_setup s vs g = let f = g.1.1 in record { n = f.0.1; f = f.1.0.1; matrix = f.1.1.0.1 }

is_set : (s : Set) (vs : List Val) → Is set-type.the_row s vs → Shape s
is_set s vs g = is_words words s.words _ g.1.1.0

is_row : (p : Posting) (vs : List Val) → Is posting-type.the_row p vs → RowFits p
is_row p vs g =
    let f = g.1.1 in
    record { owner = f.0.1; kind = f.1.0.1; a = f.1.1.0.1; b = f.1.1.1.0.1; amount = f.1.1.1.1.0.1 }

is_record : (r : Record) (vs : List Val) → Is record-type.the_row r vs → RecordFits r
is_record r vs g = let f = g.1.1 in record { count = f.0.1; numbers = is_bytes capacity r.numbers _ f.1.0 }

pub is_site : (s : Site) (vs : List Val) → Is site-type.the_row s vs → SiteFits s
is_site s vs g =
    let f = g.1.1 in
    record {
      seen = is_set s.seen _ f.0;
      held = is_set s.held _ f.1.0;
      stepped = is_set s.stepped _ f.1.1.0;
      finished = is_set s.finished _ f.1.1.1.0;
      got = is_set s.got _ f.1.1.1.1.0;
      heard = is_bytes capacity s.heard _ f.1.1.1.1.1.0;
      good = is_bytes capacity s.good _ f.1.1.1.1.1.1.0;
      place = f.1.1.1.1.1.1.1.0.1;
      delivered = is_record s.delivered _ f.1.1.1.1.1.1.1.1.0;
    }

is_tally : (y : Tally) (vs : List Val) → Is tally-type.the_row y vs → TallyFits y
is_tally y vs g = let f = g.1.1 in record { heard = f.0.1; has = f.1.0.1; union = is_set y.union _ f.1.1.0 }

pub is_flight : (f : Flight) (vs : List Val) → Is flight-type.the_row f vs → FlightShape f
is_flight f vs g = record {
  masks = is_bytes cells f.masks _ g.1.1.0;
  good = is_bytes pairs f.good _ g.1.1.1.0;
  carried = is_words _ f.carried _ g.1.1.1.1.0;
}

pub is_board : (b : Board) (vs : List Val) → Is board-type.the_row b vs → BoardFits b
is_board b vs g =
    let f = g.1.1 in
    let table = f.1.1.0.1.1 in
    let ss = f.1.1.1.0 in
    let ys = f.1.1.1.1.0 in
    let es = f.1.1.1.1.1.1.1.0 in
    record {
      setup = is_setup b.setup _ f.0;
      down = f.1.0.1;
      count = table.0.1;
      rows_long = array_long posting-type.the_row capacity b.table.rows _ table.1.0;
      sites_long = array_long site-type.the_row sites b.sites _ ss;
      tallies_long = array_long tally-type.the_row capacity b.tallies _ ys;
      entries_long = array_long set-type.the_row capacity b.entries _ es;
      each_row = λ m h. is_row (get_or b.table.rows m no_posting) _ (array_at posting-type.the_row capacity b.table.rows _ table.1.0 m no_posting h).1;
      each_site = λ p h. is_site (get_or b.sites p no_site) _ (array_at site-type.the_row sites b.sites _ ss p no_site h).1;
      each_tally = λ m h. is_tally (get_or b.tallies m no_tally) _ (array_at tally-type.the_row capacity b.tallies _ ys m no_tally h).1;
      each_entry = λ m h. is_set (get_or b.entries m no_set) _ (array_at set-type.the_row capacity b.entries _ es m no_set h).1;
      flight = is_flight b.flight _ f.1.1.1.1.1.0;
      pool = is_set b.pool _ f.1.1.1.1.1.1.0;
      log = is_record b.log _ f.1.1.1.1.1.1.1.1.0;
    }

-- ---- the shape alone

pub site_shape : (s : Site) → SiteFits s → SiteShape s
site_shape s fits =
    record {
      seen = fits.seen;
      held = fits.held;
      stepped = fits.stepped;
      finished = fits.finished;
      got = fits.got;
      heard = fits.heard.long;
      good = fits.good.long;
      delivered = fits.delivered.numbers.long;
    }

pub board_shape : (b : Board) → BoardFits b → BoardShape b
board_shape b fits =
    record {
      rows = fits.rows_long;
      sites_long = fits.sites_long;
      tallies_long = fits.tallies_long;
      entries_long = fits.entries_long;
      each_site = λ p h. site_shape (get_or b.sites p no_site) (fits.each_site p h);
      each_union = λ m h. (fits.each_tally m h).union;
      each_entry = fits.each_entry;
      flight = fits.flight;
      pool = fits.pool;
      log = fits.log.numbers.long;
    }
