-- A board as a row of numbers: every number of Board in the order of its fields, an array's elements in order, a struct's fields in order.
-- image_of writes the row; board_from reads a board off any row, each number modulo the width of its field; changed is a board with one number changed.
-- Rests on Layout for the places that board_from reads, on the declared types.
use Rattle.std.specs.Prelude.{ℕ, ◌+◌, ◌*◌, ◌^◌, ◌%◌, List, [], ◌∷◌, ◌++◌, get_or, set}
use Rattle.sets.specs.declared.Set.{Set}
use Rattle.sets.specs.Sets.{words, capacity}
use Rattle.posting.specs.declared.Posting.{Posting}
use Rattle.posting.specs.declared.Table.{Table}
use Rattle.posting.specs.declared.Record.{Record}
use Rattle.books.specs.Books.{tabulate}
use Rattle.site.specs.declared.Setup.{Setup}
use Rattle.site.specs.declared.Site.{Site}
use Rattle.site.specs.declared.Tally.{Tally}
use Rattle.site.specs.Sites.{sites}
use Rattle.flight.specs.declared.Flight.{Flight}
use Rattle.flight.specs.Flights.{pairs, cells}
use Rattle.machine.specs.declared.Board.{Board}
use Rattle.image.specs.Layout.{row_long, site_long, tally_long, loads, down_at, count_at, rows_at, sites_at, tallies_at, masks_at, good_at, carried_at, pool_at, entries_at, log_at}

-- ---- the numbers of a board

-- the numbers of each element of an array, in order
unfoldable pub each : {A : Type 0} → (A → List ℕ) → List A → List ℕ
each f [] = []
each f (x ∷ xs) = f x ++ each f xs

abbrev pub setup_numbers : Setup → List ℕ
setup_numbers s = s.n ∷ s.f ∷ s.matrix ∷ []

abbrev pub set_numbers : Set → List ℕ
set_numbers s = s.words

abbrev pub row_numbers : Posting → List ℕ
row_numbers p = p.owner ∷ p.kind ∷ p.a ∷ p.b ∷ p.amount ∷ []

abbrev pub table_numbers : Table → List ℕ
table_numbers t = t.count ∷ each row_numbers t.rows

abbrev pub record_numbers : Record → List ℕ
record_numbers r = r.count ∷ r.numbers

unfoldable pub site_numbers : Site → List ℕ
site_numbers s =
    set_numbers s.seen ++ set_numbers s.held ++ set_numbers s.stepped ++ set_numbers s.finished ++ set_numbers s.got
    ++ s.heard ++ s.good ++ s.place ∷ record_numbers s.delivered

unfoldable pub tally_numbers : Tally → List ℕ
tally_numbers y = y.heard ∷ y.has ∷ set_numbers y.union

abbrev pub flight_numbers : Flight → List ℕ
flight_numbers f = f.masks ++ f.good ++ f.carried

unfoldable pub image_of : Board → List ℕ
image_of b =
    setup_numbers b.setup ++ (b.down ∷ []) ++ table_numbers b.table ++ each site_numbers b.sites ++ each tally_numbers b.tallies
    ++ flight_numbers b.flight ++ set_numbers b.pool ++ each set_numbers b.entries ++ record_numbers b.log

-- ---- the board of a row of numbers

-- what stands at a place, of a width: u8, u16, u32; u64 and usize
abbrev pub number : ℕ → List ℕ → ℕ → ℕ
number bits l i = get_or l i 0 % 2 ^ bits

-- an array of n such numbers, from a place on
unfoldable pub numbers : ℕ → List ℕ → ℕ → ℕ → List ℕ
numbers bits l i n = tabulate n (λ k. number bits l (i + k))

unfoldable pub setup_from : List ℕ → ℕ → Setup
setup_from l i = record { n = number 8 l i; f = number 8 l (i + 1); matrix = number 16 l (i + 2) }

unfoldable pub set_from : List ℕ → ℕ → Set
set_from l i = record { words = numbers 64 l i words }

unfoldable pub row_from : List ℕ → ℕ → Posting
row_from l i =
    record {
      owner = number 8 l i;
      kind = number 8 l (i + 1);
      a = number 8 l (i + 2);
      b = number 8 l (i + 3);
      amount = number 32 l (i + 4);
    }

unfoldable pub record_from : List ℕ → ℕ → Record
record_from l i = record { count = number 64 l i; numbers = numbers 8 l (i + 1) capacity }

unfoldable pub site_from : List ℕ → ℕ → Site
site_from l i =
    record {
      seen = set_from l i;
      held = set_from l (i + words);
      stepped = set_from l (i + 2 * words);
      finished = set_from l (i + 3 * words);
      got = set_from l (i + 4 * words);
      heard = numbers 8 l (i + 5 * words) capacity;
      good = numbers 8 l (i + 5 * words + capacity) capacity;
      place = number 64 l (i + 5 * words + 2 * capacity);
      delivered = record_from l (i + 5 * words + 2 * capacity + 1);
    }

unfoldable pub tally_from : List ℕ → ℕ → Tally
tally_from l i = record { heard = number 8 l i; has = number 8 l (i + 1); union = set_from l (i + 2) }

unfoldable pub table_from : List ℕ → Table
table_from l = record { count = number 64 l count_at; rows = tabulate capacity (λ m. row_from l (rows_at + m * row_long)) }

unfoldable pub flight_from : List ℕ → Flight
flight_from l = record { masks = numbers 8 l masks_at cells; good = numbers 8 l good_at pairs; carried = numbers 64 l carried_at loads }

unfoldable pub board_from : List ℕ → Board
board_from l =
    record {
      setup = setup_from l 0;
      down = number 8 l down_at;
      table = table_from l;
      sites = tabulate sites (λ p. site_from l (sites_at + p * site_long));
      tallies = tabulate capacity (λ m. tally_from l (tallies_at + m * tally_long));
      flight = flight_from l;
      pool = set_from l pool_at;
      entries = tabulate capacity (λ m. set_from l (entries_at + m * words));
      log = record_from l log_at;
    }

-- the board with the number at a place changed
abbrev pub changed : Board → ℕ → ℕ → Board
changed b place value = board_from (set (image_of b) place value)
