-- The books of some sites of a board at work, gathered in one list of figures: those of site p from 64p on.
-- Proof machinery: Lookups says what is looked up. Rests on lookup_pairs, views, arrays, books and posting.
use Rattle.std.specs.Prelude.{ℕ, ◌+◌, ◌*◌, ◌<◌, ◌≡◌, true, List, ◌++◌, ℤ, length, take, drop}
use Rattle.sets.specs.Masks.{has_bit}
use Rattle.posting.specs.Records.{numbers_of}
use Rattle.books.specs.Books.{blank, books, numbers}
use Rattle.arrays.specs.declared.Arrays.{Arrays}
use Rattle.views.specs.Views.{record_in, table_of}
use Rattle.lookup_pairs.specs.Gathered.{block_of}

-- the numbers of the record of site p, on these arrays
abbrev pub lines_at : Arrays → ℕ → List ℕ
lines_at a p = numbers_of (record_in a p)

-- how many places it has
abbrev pub places_at : Arrays → ℕ → ℕ
places_at a p = length (lines_at a p)

-- the 64 numbers of its books
abbrev pub numbers_at : Arrays → ℕ → List ℤ
numbers_at a p = numbers (books blank (table_of a) (lines_at a p))

-- the figures with a block of 64 numbers from 64p on
abbrev pub with_block : List ℤ → ℕ → List ℤ → List ℤ
with_block figures p block = take (64 * p) figures ++ (block ++ drop (64 * p + 64) figures)

-- the blocks of those of the first n sites that a mask has
abbrev pub Gathered : (ℕ → List ℤ) → ℕ → ℕ → List ℤ → Type 0
Gathered numbers named n figures = (p : ℕ) → p < n → has_bit named p ≡ true → block_of figures p ≡ numbers p
