-- What src/writing leaves in the row is the image: of a site, of what is in flight, of a whole board; and how long each is.
-- In order: row_written, record_written, tally_written, tally_long_lem; site_done, site_long_lem, flight_done; image_done, image_long_lem, image_written. Rests on Rows and on machine's Shapes. Assumes nothing.
use Prim.Native.Nat.{ℕ, suc, ◌+◌, ◌*◌, ◌<◌}
use mathlib.Core.Path.{◌≡◌, refl, sym, ap, ◌∙◌}
use mathlib.Core.List.{List, [], ◌∷◌, ◌++◌}
use native.Mathlib.Omega.{arith}
use native.Mathlib.Numerals.{add-one}
use lib.ListN.{length, get_or, set}
use lib.Seq.{sets}
use Rattle.sets.specs.Sets.{words, capacity, Shape}
use Rattle.posting.specs.declared.Posting.{Posting}
use Rattle.posting.specs.declared.Record.{Record}
use Rattle.posting.specs.Conflicts.{no_posting}
use Rattle.site.specs.declared.Site.{Site}
use Rattle.site.specs.declared.Tally.{Tally}
use Rattle.site.specs.Sites.{sites, no_set, no_site, no_tally}
use Rattle.flight.specs.declared.Flight.{Flight}
use Rattle.flight.specs.Flights.{cells, pairs}
use Rattle.flight.specs.Shapes.{Shape as FlightShape}
use Rattle.machine.specs.declared.Board.{Board}
use Rattle.machine.proofs.Shapes.{SiteShape, BoardShape}
use Rattle.image.specs.Layout.{row_long, site_long, tally_long, loads, count_at, rows_at, sites_at, tallies_at, masks_at, good_at, carried_at, pool_at, entries_at, log_at, image_long}
use Rattle.image.specs.Image.{each, setup_numbers, set_numbers, row_numbers, record_numbers, site_numbers, tally_numbers, flight_numbers, image_of}
use Rattle.image.specs.Stored.{stored}
use Rattle.image.proofs.Rows.{Done, first, next, next_one, sets_whole, stored_each, length_each}

-- ---- a row of the table, a record, a tally: a few numbers one behind another

pub row_written :
    (p : Posting) (l : List ℕ) (i : ℕ)
    → set (set (set (set (set l i p.owner) (i + 1) p.kind) (i + 2) p.a) (i + 3) p.b) (i + 4) p.amount ≡ sets l i (row_numbers p)
row_written p l i =
    let one : i + 1 ≡ suc i = omega arith in
    let two : i + 2 ≡ suc (suc i) = omega arith in
    let three : i + 3 ≡ suc (suc (suc i)) = omega arith in
    let four : i + 4 ≡ suc (suc (suc (suc i))) = omega arith in
    rw (one, two, three, four) refl

pub record_written : (d : Record) (l r : List ℕ) (i : ℕ) → r ≡ sets (set l i d.count) (i + 1) d.numbers → r ≡ sets l i (record_numbers d)
record_written d l r i e = e ∙ ap (λ (j : ℕ). sets (set l i d.count) j d.numbers) (add-one i)

pub tally_written :
    (y : Tally) (l r : List ℕ) (i : ℕ) → r ≡ sets (set (set l i y.heard) (i + 1) y.has) (i + 2) (set_numbers y.union) → r ≡ sets l i (tally_numbers y)
unfolding tally_numbers
tally_written y l r i e =
    let two : i + 2 ≡ suc (suc i) = omega arith in
    e ∙ rw (add-one i, two) refl

pub tally_long_lem : (y : Tally) → Shape y.union → length (tally_numbers y) ≡ tally_long
unfolding tally_numbers
tally_long_lem y shape = omega (arith, shape.long)

-- ---- a site, what is in flight

-- its sets, masks and record, stored one behind another
module _ (s : Site) (shape : SiteShape s) (l : List ℕ) (i : ℕ) where
  pub site_done :
      (a b c d e f g h : List ℕ) → a ≡ sets l i s.seen.words → b ≡ sets a (i + words) s.held.words → c ≡ sets b (i + 2 * words) s.stepped.words
      → d ≡ sets c (i + 3 * words) s.finished.words → e ≡ sets d (i + 4 * words) s.got.words → f ≡ sets e (i + 5 * words) s.heard
      → g ≡ sets f (i + 5 * words + capacity) s.good
      → h ≡ sets (set g (i + 5 * words + 2 * capacity) s.place) (i + 5 * words + 2 * capacity + 1) (record_numbers s.delivered)
      → Done l i (site_numbers s) (i + site_long) h
  unfolding site_numbers
  site_done a b c d e f g h ea eb ec ed ee ef eg eh =
      let da = first s.seen.words (i + words) ea (omega (arith, shape.seen.long)) in
      let db = next da s.held.words (i + 2 * words) eb (omega (arith, shape.held.long)) in
      let dc = next db s.stepped.words (i + 3 * words) ec (omega (arith, shape.stepped.long)) in
      let dd = next dc s.finished.words (i + 4 * words) ed (omega (arith, shape.finished.long)) in
      let de = next dd s.got.words (i + 5 * words) ee (omega (arith, shape.got.long)) in
      let df = next de s.heard (i + 5 * words + capacity) ef (omega (arith, shape.heard)) in
      let dg = next df s.good (i + 5 * words + 2 * capacity) eg (omega (arith, shape.good)) in
      next_one dg s.place (record_numbers s.delivered) (i + site_long) eh (omega (arith, shape.delivered))

pub site_long_lem : (s : Site) → SiteShape s → length (site_numbers s) ≡ site_long
site_long_lem s shape =
    let d = site_done s shape [] 0 _ _ _ _ _ _ _ _ refl refl refl refl refl refl refl refl in
    omega (arith, d.to)

pub flight_done :
    (f : Flight) → FlightShape f → (l a b c : List ℕ) → a ≡ sets l masks_at f.masks → b ≡ sets a good_at f.good → c ≡ sets b carried_at f.carried
    → Done l masks_at (flight_numbers f) pool_at c
flight_done f shape l a b c ea eb ec =
    let da = first f.masks good_at ea (omega (arith, shape.masks.long)) in
    let db = next da f.good carried_at eb (omega (arith, shape.good.long)) in
    next db f.carried pool_at ec (omega (arith, shape.carried.long))

-- ---- a board

module _ (b : Board) (shape : BoardShape b) where
  pub rows_long : length (each row_numbers b.table.rows) ≡ capacity * row_long
  rows_long = length_each row_numbers rows_at row_long b.table.rows no_posting (λ k h. refl) capacity shape.rows

  pub site_each : (p : ℕ) → p < length b.sites → length (site_numbers (get_or b.sites p no_site)) ≡ site_long
  site_each p h = site_long_lem (get_or b.sites p no_site) (shape.each_site p (omega (arith, shape.sites_long)))

  pub sites_long : length (each site_numbers b.sites) ≡ sites * site_long
  sites_long = length_each site_numbers sites_at site_long b.sites no_site site_each sites shape.sites_long

  pub tally_each : (m : ℕ) → m < length b.tallies → length (tally_numbers (get_or b.tallies m no_tally)) ≡ tally_long
  tally_each m h = tally_long_lem (get_or b.tallies m no_tally) (shape.each_union m (omega (arith, shape.tallies_long)))

  pub tallies_long : length (each tally_numbers b.tallies) ≡ capacity * tally_long
  tallies_long = length_each tally_numbers tallies_at tally_long b.tallies no_tally tally_each capacity shape.tallies_long

  pub entry_each : (m : ℕ) → m < length b.entries → length (set_numbers (get_or b.entries m no_set)) ≡ words
  entry_each m h = (shape.each_entry m (omega (arith, shape.entries_long))).long

  pub entries_long : length (each set_numbers b.entries) ≡ capacity * words
  entries_long = length_each set_numbers entries_at words b.entries no_set entry_each capacity shape.entries_long

  pub flight_long : length (flight_numbers b.flight) ≡ cells + pairs + loads
  flight_long =
      let d = flight_done b.flight shape.flight [] _ _ _ refl refl refl in
      omega (arith, d.to)

  -- its parts, stored one behind another
  pub image_done :
      (l a c d e f g h r : List ℕ) → a ≡ sets l 0 (setup_numbers b.setup ++ (b.down ∷ []))
      → c ≡ stored row_numbers rows_at row_long b.table.rows no_posting (set a count_at b.table.count) capacity
      → d ≡ stored site_numbers sites_at site_long b.sites no_site c sites → e ≡ stored tally_numbers tallies_at tally_long b.tallies no_tally d capacity
      → f ≡ sets e masks_at (flight_numbers b.flight) → g ≡ sets f pool_at (set_numbers b.pool)
      → h ≡ stored set_numbers entries_at words b.entries no_set g capacity → r ≡ sets h log_at (record_numbers b.log) → Done l 0 (image_of b) image_long r
  unfolding image_of
  image_done l a c d e f g h r ea ec ed ee ef eg eh er =
      let da = first {l = l} {i = 0} (setup_numbers b.setup ++ (b.down ∷ [])) count_at ea refl in
      let rows = stored_each row_numbers rows_at row_long b.table.rows no_posting (λ k u. refl) (set a count_at b.table.count) capacity shape.rows in
      let dc = next_one da b.table.count (each row_numbers b.table.rows) sites_at (ec ∙ rows) (omega (arith, rows_long)) in
      let every = stored_each site_numbers sites_at site_long b.sites no_site site_each c sites shape.sites_long in
      let dd = next dc (each site_numbers b.sites) tallies_at (ed ∙ every) (omega (arith, sites_long)) in
      let thirds = stored_each tally_numbers tallies_at tally_long b.tallies no_tally tally_each d capacity shape.tallies_long in
      let de = next dd (each tally_numbers b.tallies) masks_at (ee ∙ thirds) (omega (arith, tallies_long)) in
      let df = next de (flight_numbers b.flight) pool_at ef (omega (arith, flight_long)) in
      let dg = next df (set_numbers b.pool) entries_at eg (omega (arith, shape.pool.long)) in
      let entered = stored_each set_numbers entries_at words b.entries no_set entry_each g capacity shape.entries_long in
      let dh = next dg (each set_numbers b.entries) log_at (eh ∙ entered) (omega (arith, entries_long)) in
      next dh (record_numbers b.log) image_long er (omega (arith, shape.log))

  pub image_long_lem : length (image_of b) ≡ image_long
  image_long_lem =
      let d = image_done [] _ _ _ _ _ _ _ _ refl refl refl refl refl refl refl refl in
      omega (arith, d.to)

  pub image_written : (l r : List ℕ) → length l ≡ image_long → Done l 0 (image_of b) image_long r → r ≡ image_of b
  image_written l r long d = d.is ∙ sets_whole (image_of b) l (image_long_lem ∙ sym long)
