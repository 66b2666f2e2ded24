-- A board's image read back is the board.
-- In order: At, with its laws: the numbers that stand in a row from a place on; number_back, numbers_back, each_back; each type read back; unchanged.
-- Rests on Written and Widths. Assumes nothing.
use Prim.Native.Nat.{ℕ, zero, suc, ◌+◌, ◌*◌, ◌^◌, ◌%◌, ◌<◌}
use mathlib.Core.Path.{◌≡◌, refl, sym, ap, ap₂, ◌∙◌}
use mathlib.Core.List.{List, [], ◌∷◌, ◌++◌}
use native.Mathlib.Omega.{arith}
use native.Mathlib.Nat.{mod-eq_of_lt, zero-mul, suc-mul}
use lib.ListN.{length, get_or, length-append, get_or-append}
use lib.Seq.{get_or-append-add}
use Rattle.sets.specs.declared.Set.{Set}
use Rattle.sets.specs.Sets.{words, capacity, of_words, Shape}
use Rattle.posting.specs.declared.Posting.{Posting}
use Rattle.posting.specs.declared.Record.{Record}
use Rattle.posting.specs.Conflicts.{no_posting}
use Rattle.books.specs.Books.{tabulate}
use Rattle.books.proofs.Lists.{is_tabulate}
use Rattle.site.specs.declared.Setup.{Setup}
use Rattle.site.specs.declared.Site.{Site}
use Rattle.site.specs.declared.Tally.{Tally}
use Rattle.site.specs.Sites.{sites, no_set, no_site, no_tally}
use Rattle.flight.specs.declared.Flight.{Flight}
use Rattle.flight.specs.Flights.{cells, pairs}
use Rattle.flight.specs.Shapes.{Shape as FlightShape}
use Rattle.machine.specs.declared.Board.{Board}
use Rattle.image.specs.Layout.{row_long, site_long, tally_long, loads, down_at, count_at, rows_at, sites_at, tallies_at, masks_at, good_at, carried_at, pool_at, entries_at, log_at}
use Rattle.image.specs.Image.{each, setup_numbers, set_numbers, row_numbers, record_numbers, site_numbers, tally_numbers, flight_numbers, image_of, number, numbers, setup_from, set_from, row_from, record_from, site_from, tally_from, table_from, flight_from, board_from}
use Rattle.image.proofs.Widths.{SetupFits, RowFits, RecordFits, SiteFits, TallyFits, BoardFits, board_shape}
use Rattle.image.proofs.Written.{rows_long, sites_long, site_each, tallies_long, tally_each, entries_long, entry_each, flight_long}

-- ---- what stands in a row from a place on

pub record At (l : List ℕ) (i : ℕ) (vs : List ℕ) : Type 0 where
  pub get : (k : ℕ) → k < length vs → get_or l (i + k) 0 ≡ get_or vs k 0

module _ {l : List ℕ} {i : ℕ} where
  at_front : (vs ws : List ℕ) → At l i (vs ++ ws) → At l i vs
  at_front vs ws a =
      record { get = λ k h. a.get k (omega (arith, length-append vs ws)) ∙ get_or-append vs ws 0 k h }

  at_back : (vs ws : List ℕ) (n j : ℕ) → At l i (vs ++ ws) → length vs ≡ n → i + n ≡ j → At l j ws
  at_back vs ws n j a long e =
      record {
        get = λ k h.
            let same : j + k ≡ i + (length vs + k) = omega arith in
            ap (λ (m : ℕ). get_or l m 0) same ∙ a.get (length vs + k) (omega (arith, length-append vs ws)) ∙ get_or-append-add vs ws k 0;
      }

  at_head : (w : ℕ) (ws : List ℕ) → At l i (w ∷ ws) → get_or l i 0 ≡ w
  at_head w ws a = let e : i ≡ i + 0 = omega arith in ap (λ (m : ℕ). get_or l m 0) e ∙ a.get 0 (omega arith)

  at_tail : (w : ℕ) (ws : List ℕ) (j : ℕ) → At l i (w ∷ ws) → i + 1 ≡ j → At l j ws
  at_tail w ws j a e = at_back (w ∷ []) ws 1 j a refl e

at_self : (l : List ℕ) → At l 0 l
at_self l = record { get = λ k h. let e : 0 + k ≡ k = omega arith in ap (λ (m : ℕ). get_or l m 0) e }

-- ---- numbers

number_back : (bits : ℕ) (l : List ℕ) (i v : ℕ) → get_or l i 0 ≡ v → v < 2 ^ bits → number bits l i ≡ v
number_back bits l i v e small = ap (λ (w : ℕ). w % 2 ^ bits) e ∙ mod-eq_of_lt small

numbers_back :
    (bits : ℕ) (l : List ℕ) (i n : ℕ) (vs : List ℕ) → At l i vs → length vs ≡ n → ((k : ℕ) → k < n → get_or vs k 0 < 2 ^ bits) → numbers bits l i n ≡ vs
unfolding numbers
numbers_back bits l i n vs a long small =
    sym (is_tabulate n (λ k. number bits l (i + k)) 0 vs long
    (λ k h. sym (number_back bits l (i + k) (get_or vs k 0) (a.get k (omega arith)) (small k h))))

-- ---- arrays of structs

module _ {A : Type 0} (f : A → List ℕ) (size : ℕ) (d : A) (l : List ℕ) where
  each_at :
      (xs : List A) (i : ℕ) → At l i (each f xs) → ((k : ℕ) → k < length xs → length (f (get_or xs k d)) ≡ size) → (k : ℕ) → k < length xs
      → At l (i + k * size) (f (get_or xs k d))
  unfolding each
  each_at [] i a long k h = absurd (omega arith)
  each_at (x ∷ xs) i a long zero h =
      let e : i + 0 * size ≡ i = ap (λ (m : ℕ). i + m) (zero-mul size) ∙ omega arith in
      rw e (at_front (f x) (each f xs) a)
  each_at (x ∷ xs) i a long (suc k) h =
      let here : length (f x) ≡ size = long 0 (omega arith) in
      let e : i + suc k * size ≡ i + size + k * size = ap (λ (m : ℕ). i + m) (suc-mul k size) ∙ omega arith in
      rw e (each_at xs (i + size) (at_back (f x) (each f xs) size (i + size) a here refl) (λ m b. long (suc m) (omega arith)) k (omega arith))

  each_back :
      (from : List ℕ → ℕ → A) (xs : List A) (i n : ℕ) → At l i (each f xs) → length xs ≡ n → ((k : ℕ) → k < length xs → length (f (get_or xs k d)) ≡ size)
      → ((k j : ℕ) → k < n → At l j (f (get_or xs k d)) → from l j ≡ get_or xs k d) → tabulate n (λ k. from l (i + k * size)) ≡ xs
  each_back from xs i n a long sizes back =
      sym (is_tabulate n (λ k. from l (i + k * size)) d xs long
      (λ k h. let b : k < length xs = omega arith in sym (back k (i + k * size) h (each_at xs i a sizes k b))))

-- ---- structs

setup_back : (l : List ℕ) (i : ℕ) (s : Setup) → SetupFits s → At l i (setup_numbers s) → setup_from l i ≡ s
unfolding setup_from
setup_back l i s fits a =
    let b = at_tail s.n (s.f ∷ s.matrix ∷ []) (i + 1) a refl in
    let c = at_tail s.f (s.matrix ∷ []) (i + 2) b (omega arith) in
    rw (
      number_back 8 l i s.n (at_head s.n (s.f ∷ s.matrix ∷ []) a) fits.n,
      number_back 8 l (i + 1) s.f (at_head s.f (s.matrix ∷ []) b) fits.f,
      number_back 16 l (i + 2) s.matrix (at_head s.matrix [] c) fits.matrix,
    )

set_back : (l : List ℕ) (i : ℕ) (s : Set) → Shape s → At l i (set_numbers s) → set_from l i ≡ s
unfolding set_from
set_back l i s fits a = ap of_words (numbers_back 64 l i words s.words a fits.long fits.small)

row_back : (l : List ℕ) (i : ℕ) (p : Posting) → RowFits p → At l i (row_numbers p) → row_from l i ≡ p
unfolding row_from
row_back l i p fits a =
    let b = at_tail p.owner (p.kind ∷ p.a ∷ p.b ∷ p.amount ∷ []) (i + 1) a refl in
    let c = at_tail p.kind (p.a ∷ p.b ∷ p.amount ∷ []) (i + 2) b (omega arith) in
    let d = at_tail p.a (p.b ∷ p.amount ∷ []) (i + 3) c (omega arith) in
    let e = at_tail p.b (p.amount ∷ []) (i + 4) d (omega arith) in
    rw (
      number_back 8 l i p.owner (at_head p.owner (p.kind ∷ p.a ∷ p.b ∷ p.amount ∷ []) a) fits.owner,
      number_back 8 l (i + 1) p.kind (at_head p.kind (p.a ∷ p.b ∷ p.amount ∷ []) b) fits.kind,
      number_back 8 l (i + 2) p.a (at_head p.a (p.b ∷ p.amount ∷ []) c) fits.a,
      number_back 8 l (i + 3) p.b (at_head p.b (p.amount ∷ []) d) fits.b,
      number_back 32 l (i + 4) p.amount (at_head p.amount [] e) fits.amount,
    )

record_back : (l : List ℕ) (i : ℕ) (r : Record) → RecordFits r → At l i (record_numbers r) → record_from l i ≡ r
unfolding record_from
record_back l i r fits a =
    rw (
      number_back 64 l i r.count (at_head r.count r.numbers a) fits.count,
      numbers_back 8 l (i + 1) capacity r.numbers (at_tail r.count r.numbers (i + 1) a refl) fits.numbers.long fits.numbers.small,
    )

tally_back : (l : List ℕ) (i : ℕ) (y : Tally) → TallyFits y → At l i (tally_numbers y) → tally_from l i ≡ y
unfolding tally_from tally_numbers
tally_back l i y fits a =
    let b = at_tail y.heard (y.has ∷ y.union.words) (i + 1) a refl in
    let c = at_tail y.has y.union.words (i + 2) b (omega arith) in
    rw (
      number_back 8 l i y.heard (at_head y.heard (y.has ∷ y.union.words) a) fits.heard,
      number_back 8 l (i + 1) y.has (at_head y.has y.union.words b) fits.has,
      set_back l (i + 2) y.union fits.union c,
    )

-- two parts, and how long they are together
long_both : (vs ws : List ℕ) (n m : ℕ) → length vs ≡ n → length ws ≡ m → length (vs ++ ws) ≡ n + m
long_both vs ws n m e h = length-append vs ws ∙ ap₂ (λ (x y : ℕ). x + y) e h

site_back : (l : List ℕ) (i : ℕ) (s : Site) → SiteFits s → At l i (site_numbers s) → site_from l i ≡ s
unfolding site_from site_numbers
site_back l i s fits a =
    let two = s.seen.words ++ s.held.words in
    let three = two ++ s.stepped.words in
    let four = three ++ s.finished.words in
    let five = four ++ s.got.words in
    let six = five ++ s.heard in
    let seven = six ++ s.good in
    let rest = record_numbers s.delivered in
    let n2 = long_both s.seen.words s.held.words words words fits.seen.long fits.held.long in
    let n3 = long_both two s.stepped.words (2 * words) words n2 fits.stepped.long in
    let n4 = long_both three s.finished.words (3 * words) words n3 fits.finished.long in
    let n5 = long_both four s.got.words (4 * words) words n4 fits.got.long in
    let n6 = long_both five s.heard (5 * words) capacity n5 fits.heard.long in
    let n7 = long_both six s.good (5 * words + capacity) capacity n6 fits.good.long in
    let a7 = at_front seven (s.place ∷ rest) a in
    let a6 = at_front six s.good a7 in
    let a5 = at_front five s.heard a6 in
    let a4 = at_front four s.got.words a5 in
    let a3 = at_front three s.finished.words a4 in
    let a2 = at_front two s.stepped.words a3 in
    let a1 = at_front s.seen.words s.held.words a2 in
    let placed = at_back seven (s.place ∷ rest) (5 * words + 2 * capacity) (i + 5 * words + 2 * capacity) a n7 (omega arith) in
    rw (
      set_back l i s.seen fits.seen a1,
      set_back l (i + words) s.held fits.held (at_back s.seen.words s.held.words words (i + words) a2 fits.seen.long refl),
      set_back l (i + 2 * words) s.stepped fits.stepped (at_back two s.stepped.words (2 * words) (i + 2 * words) a3 n2 refl),
      set_back l (i + 3 * words) s.finished fits.finished (at_back three s.finished.words (3 * words) (i + 3 * words) a4 n3 refl),
      set_back l (i + 4 * words) s.got fits.got (at_back four s.got.words (4 * words) (i + 4 * words) a5 n4 refl),
      numbers_back 8 l (i + 5 * words) capacity s.heard (at_back five s.heard (5 * words) (i + 5 * words) a6 n5 refl) fits.heard.long fits.heard.small,
      numbers_back 8 l (i + 5 * words + capacity) capacity s.good
          (at_back six s.good (5 * words + capacity) (i + 5 * words + capacity) a7 n6 (omega arith)) fits.good.long fits.good.small,
      number_back 64 l (i + 5 * words + 2 * capacity) s.place (at_head s.place rest placed) fits.place,
      record_back l (i + 5 * words + 2 * capacity + 1) s.delivered fits.delivered
          (at_tail s.place rest (i + 5 * words + 2 * capacity + 1) placed refl),
    )

flight_back : (l : List ℕ) (f : Flight) → FlightShape f → At l masks_at (flight_numbers f) → flight_from l ≡ f
unfolding flight_from
flight_back l f fits a =
    let n2 = long_both f.masks f.good cells pairs fits.masks.long fits.good.long in
    let b = at_front (f.masks ++ f.good) f.carried a in
    rw (
      numbers_back 8 l masks_at cells f.masks (at_front f.masks f.good b) fits.masks.long fits.masks.small,
      numbers_back 8 l good_at pairs f.good (at_back f.masks f.good cells good_at b fits.masks.long refl) fits.good.long fits.good.small,
      numbers_back 64 l carried_at loads f.carried (at_back (f.masks ++ f.good) f.carried (cells + pairs) carried_at a n2 refl) fits.carried.long
          fits.carried.small,
    )

-- ---- a board

board_back : (l : List ℕ) (b : Board) → BoardFits b → At l 0 (image_of b) → board_from l ≡ b
unfolding board_from table_from image_of
board_back l b fits a =
    let shape = board_shape b fits in
    let start = setup_numbers b.setup in
    let one = start ++ (b.down ∷ []) in
    let rows = each row_numbers b.table.rows in
    let every = each site_numbers b.sites in
    let thirds = each tally_numbers b.tallies in
    let flight = flight_numbers b.flight in
    let pool = b.pool.words in
    let entries = each set_numbers b.entries in
    let log = record_numbers b.log in
    let two = one ++ b.table.count ∷ rows in
    let three = two ++ every in
    let four = three ++ thirds in
    let five = four ++ flight in
    let six = five ++ pool in
    let seven = six ++ entries in
    let table-long : length (b.table.count ∷ rows) ≡ 1 + capacity * row_long = omega (arith, rows_long b shape) in
    let n2 = long_both one (b.table.count ∷ rows) count_at (1 + capacity * row_long) refl table-long in
    let n3 = long_both two every sites_at (sites * site_long) n2 (sites_long b shape) in
    let n4 = long_both three thirds tallies_at (capacity * tally_long) n3 (tallies_long b shape) in
    let n5 = long_both four flight masks_at (cells + pairs + loads) n4 (flight_long b shape) in
    let n6 = long_both five pool pool_at words n5 fits.pool.long in
    let n7 = long_both six entries entries_at (capacity * words) n6 (entries_long b shape) in
    let a7 = at_front seven log a in
    let a6 = at_front six entries a7 in
    let a5 = at_front five pool a6 in
    let a4 = at_front four flight a5 in
    let a3 = at_front three thirds a4 in
    let a2 = at_front two every a3 in
    let a1 = at_front one (b.table.count ∷ rows) a2 in
    let table = at_back one (b.table.count ∷ rows) count_at count_at a2 refl refl in
    let down = at_back start (b.down ∷ []) down_at down_at a1 refl refl in
    rw (
      setup_back l 0 b.setup fits.setup (at_front start (b.down ∷ []) a1),
      number_back 8 l down_at b.down (at_head b.down [] down) fits.down,
      number_back 64 l count_at b.table.count (at_head b.table.count rows table) fits.count,
      each_back row_numbers row_long no_posting l row_from b.table.rows rows_at capacity (at_tail b.table.count rows rows_at table refl) fits.rows_long
          (λ k h. refl) (λ k j h x. row_back l j (get_or b.table.rows k no_posting) (fits.each_row k h) x),
      each_back site_numbers site_long no_site l site_from b.sites sites_at sites (at_back two every sites_at sites_at a3 n2 refl) fits.sites_long
          (site_each b shape) (λ k j h x. site_back l j (get_or b.sites k no_site) (fits.each_site k h) x),
      each_back tally_numbers tally_long no_tally l tally_from b.tallies tallies_at capacity (at_back three thirds tallies_at tallies_at a4 n3 refl)
          fits.tallies_long (tally_each b shape) (λ k j h x. tally_back l j (get_or b.tallies k no_tally) (fits.each_tally k h) x),
      flight_back l b.flight fits.flight (at_back four flight masks_at masks_at a5 n4 refl),
      set_back l pool_at b.pool fits.pool (at_back five pool pool_at pool_at a6 n5 refl),
      each_back set_numbers words no_set l set_from b.entries entries_at capacity (at_back six entries entries_at entries_at a7 n6 refl) fits.entries_long
          (entry_each b shape) (λ k j h x. set_back l j (get_or b.entries k no_set) (fits.each_entry k h) x),
      record_back l log_at b.log fits.log (at_back seven log log_at log_at a n7 refl),
    )

pub unchanged : (b : Board) → BoardFits b → board_from (image_of b) ≡ b
unchanged b fits = board_back (image_of b) b fits (at_self (image_of b))
