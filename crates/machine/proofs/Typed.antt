-- What every value of the type Board is: its arrays have their lengths, its words are below 2 ^ 64. The checker tells it of each parameter.
-- Rests on Shapes. Assumes nothing.
use Prim.Native.Nat.{ℕ, zero, suc, ◌<◌}
use mathlib.Core.Path.{◌≡◌}
use mathlib.Core.List.{List, [], ◌∷◌}
use native.Mathlib.Omega.{arith}
use lib.ListN.{length, get_or}
use mir.Val.{Val}
use denote.RattleType.{RattleType}
use denote.Builtin.{u8, u64}
use denote.Shadow.{shadow}
use denote.Array.{each, Array}
use denote.Laws.{Is}
use Rattle.sets.specs.declared.Set.{Set}
use Rattle.sets.specs.Words.{Words}
use Rattle.sets.specs.Sets.{words, capacity, Shape}
use Rattle.posting.specs.declared.Record.{Record}
use Rattle.posting.proofs.RecordLaws.{Places}
use Rattle.site.specs.declared.Site.{Site}
use Rattle.site.specs.declared.Tally.{Tally}
use Rattle.site.specs.Sites.{sites, no_site, no_tally, no_set}
use Rattle.flight.specs.declared.Flight.{Flight}
use Rattle.flight.specs.Flights.{cells, pairs}
use Rattle.flight.specs.Shapes.{Shape as FlightShape}
use Rattle.flight.specs.Shapes.{Bytes}
use Rattle.sets.specs.contracts.Set as set-type
use Rattle.posting.specs.contracts.Posting as posting-type
use Rattle.posting.specs.contracts.Record as record-type
use Rattle.site.specs.contracts.Site as site-type
use Rattle.site.specs.contracts.Tally as tally-type
use Rattle.flight.specs.contracts.Flight as flight-type
use Rattle.machine.specs.declared.Board.{Board}
use Rattle.machine.specs.Boards.{site_at, tally_at, entry_at}
use Rattle.machine.proofs.Shapes.{SiteShape, BoardShape}
use Rattle.machine.specs.contracts.Board as board-type

abbrev pub IsBoard : Board → List Val → Type 0
IsBoard b vs = Is board-type.the_row b vs

-- ---- arrays

-- each element of an array is of the elements' type
each_at : (R : RattleType) (xs : List R.Denot) (us : List Val) → shadow (each R.Denot R.own_val xs us) → (i : ℕ) (d : R.Denot) → i < length xs
    → (u : Val) × Is R (get_or xs i d) (u ∷ [])
each_at R [] us g i d h = absurd (omega arith)
each_at R (x ∷ xs) [] g i d h = absurd g
each_at R (x ∷ xs) (u ∷ us) g zero d h = (u, g.0)
each_at R (x ∷ xs) (u ∷ us) g (suc i) d h = each_at R xs us g.1 i d (omega arith)

-- a field that is an array
module _ (R : RattleType) (n : ℕ) (xs : List R.Denot) (vs : List Val) (g : Is (Array R n) xs vs) where
  array_long : length xs ≡ n
  array_long = g.1.0.1

  array_at : (i : ℕ) (d : R.Denot) → i < n → (u : Val) × Is R (get_or xs i d) (u ∷ [])
  array_at i d h = each_at R xs g.0 g.1.1 i d (omega (arith, g.1.0.1))

-- of words, and of bytes
is_words : (n : ℕ) (ws : List ℕ) (vs : List Val) → Is (Array u64 n) ws vs → Words n ws
is_words n ws vs g = record { long = array_long u64 n ws vs g; small = λ i h. (array_at u64 n ws vs g i 0 h).1.1 }

is_bytes : (n : ℕ) (ws : List ℕ) (vs : List Val) → Is (Array u8 n) ws vs → Bytes n ws
is_bytes n ws vs g = record { long = array_long u8 n ws vs g; small = λ i h. (array_at u8 n ws vs g i 0 h).1.1 }

-- ---- structs

is_set : (s : Set) (vs : List Val) → Is set-type.the_row s vs → Shape s
is_set s vs g = is_words words s.words _ g.1.1.0

is_flight : (f : Flight) (vs : List Val) → Is flight-type.the_row f vs → FlightShape f
is_flight f vs g = record {
  masks = is_bytes cells f.masks _ g.1.1.0;
  good = is_bytes pairs f.good _ g.1.1.1.0;
  carried = is_words _ f.carried _ g.1.1.1.1.0;
}

is_record : (r : Record) (vs : List Val) → Is record-type.the_row r vs → Places r
is_record r vs g = (is_bytes capacity r.numbers _ g.1.1.1.0).long

is_site : (s : Site) (vs : List Val) → Is site-type.the_row s vs → SiteShape s
is_site s vs g =
    let f = g.1.1 in
    record {
      seen = is_set s.seen _ f.0;
      held = is_set s.held _ f.1.0;
      stepped = is_set s.stepped _ f.1.1.0;
      finished = is_set s.finished _ f.1.1.1.0;
      got = is_set s.got _ f.1.1.1.1.0;
      heard = (is_bytes capacity s.heard _ f.1.1.1.1.1.0).long;
      good = (is_bytes capacity s.good _ f.1.1.1.1.1.1.0).long;
      delivered = is_record s.delivered _ f.1.1.1.1.1.1.1.1.0;
    }

is_union : (y : Tally) (vs : List Val) → Is tally-type.the_row y vs → Shape y.union
is_union y vs g = is_set y.union _ g.1.1.1.1.0

pub is_board : (b : Board) (vs : List Val) → IsBoard b vs → BoardShape b
is_board b vs g =
    let f = g.1.1 in
    let ss = f.1.1.1.0 in
    let ys = f.1.1.1.1.0 in
    let es = f.1.1.1.1.1.1.1.0 in
    record {
      rows = array_long posting-type.the_row capacity b.table.rows _ f.1.1.0.1.1.1.0;
      sites_long = array_long site-type.the_row sites b.sites _ ss;
      tallies_long = array_long tally-type.the_row capacity b.tallies _ ys;
      entries_long = array_long set-type.the_row capacity b.entries _ es;
      each_site = λ p h. is_site (site_at b p) _ (array_at site-type.the_row sites b.sites _ ss p no_site h).1;
      each_union = λ m h. is_union (tally_at b m) _ (array_at tally-type.the_row capacity b.tallies _ ys m no_tally h).1;
      each_entry = λ m h. is_set (entry_at b m) _ (array_at set-type.the_row capacity b.entries _ es m no_set h).1;
      flight = is_flight b.flight _ f.1.1.1.1.1.0;
      pool = is_set b.pool _ f.1.1.1.1.1.1.0;
      log = is_record b.log _ f.1.1.1.1.1.1.1.1.0;
    }
