-- What each function answers and what it leaves in the slice, for all arguments: a refused call leaves the slice as it was.
-- Rests on Bytes, posting and books.
use Rattle.std.specs.Prelude.{ℕ, ◌*◌, Bool, cond, ◌&&◌, List, ◌++◌, ltb, leb, ℤ, pos, nat_abs, ◌*ℤ◌, length, get_or, drop}
use Rattle.sets.specs.Sets.{words, capacity}
use Rattle.posting.specs.declared.Posting.{Posting}
use Rattle.posting.specs.Kinds.{fields_ok}
use Rattle.posting.specs.Conflicts.{conflict_set}
use Rattle.books.specs.declared.Figures.{Figures}
use Rattle.books.specs.Effect.{size_of_call, effect}
use Rattle.books.specs.Books.{blank, books, four, numbers, numbers_of_sites}
use Rattle.by_bytes.specs.Bytes.{row_count, table_of, site_count, record_of_bytes, records_of, whole, table_ok, record_ok, sites_ok}

-- 0 for done, 255 for refused; document 01's numbers for refusals end at 16
abbrev pub answer : Bool → ℕ
answer so = cond so 0 255

-- a posting from its fields; who owns it plays no part here
abbrev pub posting_of : ℕ → ℕ → ℕ → ℕ → Posting
posting_of kind a b amount = record { owner = 0; kind = kind; a = a; b = b; amount = amount }

-- ---- the size of a call

-- position × rate, and its negative, are numbers of an i64
unfoldable pub product_fits : ℤ → ℤ → Bool
product_fits position rate = ltb (nat_abs (position *ℤ rate)) 9_223_372_036_854_775_808

-- the size of a call; 2^64 − 1, which is no size, where the product does not fit
unfoldable pub size_answer : ℤ → ℤ → ℕ
size_answer position rate = cond (product_fits position rate) (size_of_call position rate) 18_446_744_073_709_551_615

-- ---- the effect of a posting on an account's four numbers

-- figures with room for one posting more
unfoldable pub roomy : Figures → Bool
roomy s =
    leb (nat_abs s.position) 200_000_000_000_000
    && (leb (nat_abs s.rate) 10_000
    && (leb (nat_abs s.called) 4_000_000_000_000_000_000
    && leb (nat_abs s.settled) 4_000_000_000_000_000_000))

-- position, rate, called and settled, in this order
abbrev pub figures_at : List ℤ → Figures
figures_at l = record { position = get_or l 0 (pos 0); rate = get_or l 1 (pos 0); called = get_or l 2 (pos 0); settled = get_or l 3 (pos 0) }

-- the first four numbers after a posting; what lies beyond stays
abbrev pub after : Posting → ℕ → List ℤ → List ℤ
after p account l = four (effect p account (figures_at l)) ++ drop 4 l

-- a posting has its effect if the figures have room
unfoldable pub posted_on : Posting → ℕ → List ℤ → List ℤ
posted_on p account l = cond (roomy (figures_at l)) (after p account l) l

-- a posting within the field rule, and four numbers with room
unfoldable pub effect_ok : Posting → List ℤ → Bool
effect_ok p l = leb 4 (length l) && (fields_ok p && roomy (figures_at l))

unfoldable pub effect_out : Posting → ℕ → List ℤ → List ℤ
effect_out p account l = cond (effect_ok p l) (after p account l) l

-- ---- C(m) of a table

-- a table, a posting of it, and a place for each word
unfoldable pub conflict_set_ok : List ℕ → ℕ → List ℕ → Bool
conflict_set_ok rows m out = whole (length rows) 8 capacity && (ltb m (row_count rows) && leb words (length out))

unfoldable pub conflict_set_out : ℕ → List ℕ → ℕ → List ℕ → List ℕ
conflict_set_out matrix rows m out = cond (conflict_set_ok rows m out) ((conflict_set matrix (table_of rows) m).words ++ drop words out) out

-- ---- the books, from zeros

-- a table, a record of its postings, and a place for each of the 64 numbers
unfoldable pub books_ok : List ℕ → List ℕ → List ℤ → Bool
books_ok rows delivered out = leb 64 (length out) && (table_ok rows && record_ok (record_of_bytes delivered) (row_count rows))

unfoldable pub books_out : List ℕ → List ℕ → List ℤ → List ℤ
books_out rows delivered out = cond (books_ok rows delivered out) (numbers (books blank (table_of rows) delivered) ++ drop 64 out) out

-- a table, the records of sites, and 64 places for each site
unfoldable pub books_all_ok : List ℕ → List ℕ → List ℤ → Bool
books_all_ok rows delivered out = leb (64 * site_count delivered) (length out) && (table_ok rows && sites_ok delivered (row_count rows))

unfoldable pub books_all_out : List ℕ → List ℕ → List ℤ → List ℤ
books_all_out rows delivered out =
    cond (books_all_ok rows delivered out)
    (numbers_of_sites (site_count delivered) blank (table_of rows) (records_of delivered) ++ drop (64 * site_count delivered) out)
    out
