-- Tables and records as bytes: eight bytes to a row, one to a posting number, wide fields big-endian; and what of them may be posted.
-- Rests on posting, and on books for lists made of a function's values. The definitions read zeros past the end of the bytes.
use Rattle.std.specs.Prelude.{ℕ, ◌+◌, ◌*◌, ◌/◌, ◌%◌, Bool, ◌&&◌, List, eqb, ltb, leb, length, get_or}
use Rattle.sets.specs.Below.{all_below}
use Rattle.sets.specs.Sets.{capacity}
use Rattle.posting.specs.declared.Posting.{Posting}
use Rattle.posting.specs.declared.Table.{Table}
use Rattle.posting.specs.declared.Record.{Record}
use Rattle.posting.specs.Kinds.{fields_ok}
use Rattle.books.specs.declared.Records.{Records}
use Rattle.books.specs.Books.{tabulate}

-- the byte at a place; past the end, 0
abbrev pub byte_at : List ℕ → ℕ → ℕ
byte_at bytes i = get_or bytes i 0

-- four bytes from a place on, the highest first
unfoldable pub amount_at : List ℕ → ℕ → ℕ
amount_at bytes i = ((byte_at bytes i * 256 + byte_at bytes (i + 1)) * 256 + byte_at bytes (i + 2)) * 256 + byte_at bytes (i + 3)

-- row m, from place 8m on: owner, kind, a and b, a byte each, and the amount in four
unfoldable pub row_at : List ℕ → ℕ → Posting
row_at bytes m = record {
  owner = byte_at bytes (8 * m);
  kind = byte_at bytes (8 * m + 1);
  a = byte_at bytes (8 * m + 2);
  b = byte_at bytes (8 * m + 3);
  amount = amount_at bytes (8 * m + 4);
}

-- how many rows there are
abbrev pub row_count : List ℕ → ℕ
row_count bytes = length bytes / 8

-- the table with these rows; those from the count on are zeros
unfoldable pub table_of : List ℕ → Table
table_of bytes = record { count = row_count bytes; rows = tabulate capacity (row_at bytes) }

-- a record with a count, and its numbers from a place on
unfoldable pub record_at : List ℕ → ℕ → ℕ → Record
record_at bytes from count = record { count = count; numbers = tabulate capacity (λ i. byte_at bytes (i + from)) }

-- the record with these numbers
unfoldable pub record_of_bytes : List ℕ → Record
record_of_bytes bytes = record_at bytes 0 (length bytes)

-- a count, which may be the capacity and so needs two bytes, the highest first
unfoldable pub count_at : List ℕ → ℕ → ℕ
count_at bytes i = byte_at bytes i * 256 + byte_at bytes (i + 1)

-- how many bytes the record of a site has: its count, then a place for each number
abbrev pub record_size : ℕ
record_size = 2 + capacity

-- the record of site s
unfoldable pub site_record : List ℕ → ℕ → Record
site_record bytes s = record_at bytes (record_size * s + 2) (count_at bytes (record_size * s))

-- how many sites there are
abbrev pub site_count : List ℕ → ℕ
site_count bytes = length bytes / record_size

-- the records of the sites; those from the count on are zeros
unfoldable pub records_of : List ℕ → Records
records_of bytes = record { sites = tabulate 7 (site_record bytes) }

-- ---- what may be posted

-- so many bytes are whole parts of a size, and of those at most a limit
unfoldable pub whole : ℕ → ℕ → ℕ → Bool
whole bytes size limit = eqb (bytes % size) 0 && leb (bytes / size) limit

-- the fields of every row are within the rule
unfoldable pub rows_ok : List ℕ → Bool
rows_ok bytes = all_below (λ m. fields_ok (row_at bytes m)) (row_count bytes)

-- the rows of a table, within the field rule
unfoldable pub table_ok : List ℕ → Bool
table_ok bytes = whole (length bytes) 8 capacity && rows_ok bytes

-- a record within the capacity, of numbers below n: those of a table with n rows
unfoldable pub record_ok : Record → ℕ → Bool
record_ok r n = leb r.count capacity && all_below (λ i. ltb (get_or r.numbers i 0) n) r.count

-- the record of every site is such a record
unfoldable pub each_ok : List ℕ → ℕ → Bool
each_ok bytes n = all_below (λ s. record_ok (site_record bytes s) n) (site_count bytes)

-- the records of at most 7 sites, every one such
unfoldable pub sites_ok : List ℕ → ℕ → Bool
sites_ok bytes n = whole (length bytes) record_size 7 && each_ok bytes n
