-- What the tests of the bytes say: a table that passes and a record that passes may be posted.
-- Rests on Bytes. Assumes nothing.
use Prim.Native.Nat.{ℕ, ◌+◌, ◌*◌, ◌/◌, ◌%◌, ◌<◌, ◌≤◌}
use mathlib.Core.Path.{◌≡◌, ap, ◌∙◌}
use mathlib.Core.Bool.{Bool, true}
use mathlib.Core.List.{List}
use native.Mathlib.Omega.{arith}
use lib.Dec.{eqb, ltb, leb}
use lib.ListN.{length, get_or, take, length-take}
use lib.Seq.{ext_get_or, get_or-take}
use borrow.Author.Tests.{ltb-true, leb-true, eqb-true}
use Rattle.sets.proofs.Truth.{and_left, and_right}
use Rattle.sets.specs.Below.{all_below}
use Rattle.sets.proofs.BelowLaws.{all_at}
use Rattle.sets.specs.Sets.{capacity}
use Rattle.posting.specs.declared.Record.{Record}
use Rattle.posting.specs.Kinds.{fields_ok}
use Rattle.posting.specs.Conflicts.{no_posting, row, offered}
use Rattle.posting.proofs.ConflictLaws.{offered_below, below_offered}
use Rattle.posting.specs.Records.{numbers_of}
use Rattle.books.specs.Books.{tabulate, no_record}
use Rattle.books.specs.Books as of_books
use Rattle.books.specs.Bounds.{Postable}
use Rattle.books.proofs.Lists.{get_d_tabulate, length_tabulate}
use Rattle.by_bytes.specs.Bytes.{byte_at, row_at, row_count, table_of, record_at, record_of_bytes, record_size, site_record, site_count, records_of, whole, rows_ok, table_ok, record_ok, each_ok, sites_ok}

-- whole parts are at most as many as the limit
pub parts_few : (n size limit : ℕ) → whole n size limit ≡ true → n / size ≤ limit
unfolding whole
parts_few n size limit t = leb-true (n / size) limit (and_right (eqb (n % size) 0) (leb (n / size) limit) t)

-- the rows of a table are at most 8 bytes for each of the capacity
pub rows_length : (rows : List ℕ) → whole (length rows) 8 capacity ≡ true → length rows ≤ 8 * capacity
unfolding whole
rows_length rows t =
    let none_left = eqb-true (length rows % 8) 0 (and_left (eqb (length rows % 8) 0) (leb (row_count rows) capacity) t) in
    omega (arith, none_left, parts_few (length rows) 8 capacity t)

-- row m of the table
pub row_of : (rows : List ℕ) (m : ℕ) → m < capacity → row (table_of rows) m ≡ row_at rows m
unfolding row table_of
row_of rows m h = get_d_tabulate capacity (row_at rows) no_posting m h

-- the numbers of the record
pub numbers_of_lem : (delivered : List ℕ) → length delivered ≤ capacity → numbers_of (record_of_bytes delivered) ≡ delivered
unfolding numbers_of record_of_bytes record_at
numbers_of_lem delivered h =
    let f : ℕ → ℕ = λ i. byte_at delivered (i + 0) in
    let l = tabulate capacity f in
    let long : length (take (length delivered) l) ≡ length delivered = omega (arith, length-take (length delivered) l, length_tabulate capacity f) in
    ext_get_or 0 (take (length delivered) l) delivered long
    (λ i b.
    let here : i < length delivered = omega arith in
    let low : i < capacity = omega arith in
    let at : i + 0 ≡ i = omega arith in
    get_or-take (length delivered) l i 0 here ∙ get_d_tabulate capacity f 0 i low ∙ ap (byte_at delivered) at)

-- ---- a record of the table's postings may be posted

module _ (rows : List ℕ) (t : table_ok rows ≡ true) where
  rows_fit : row_count rows ≤ capacity
  unfolding table_ok
  rows_fit = omega (arith, rows_length rows (and_left (whole (length rows) 8 capacity) (rows_ok rows) t))

  row_fields : (m : ℕ) → offered (table_of rows) m ≡ true → fields_ok (row (table_of rows) m) ≡ true
  unfolding table_ok rows_ok table_of
  row_fields m o =
      let b = offered_below (table_of rows) m o in
      ap fields_ok (row_of rows m b.1)
      ∙ all_at (λ k. fields_ok (row_at rows k)) (row_count rows) m (and_right (whole (length rows) 8 capacity) (rows_ok rows) t) b.0

  module _ (r : Record) (u : record_ok r (row_count rows) ≡ true) where
    abbrev low : ℕ → Bool
    low i = ltb (get_or r.numbers i 0) (row_count rows)

    pub record_fits : r.count ≤ capacity
    unfolding record_ok
    record_fits = leb-true r.count capacity (and_left (leb r.count capacity) (all_below low r.count) u)

    line_offered : (i : ℕ) → i < r.count → offered (table_of rows) (get_or r.numbers i 0) ≡ true
    unfolding record_ok table_of
    line_offered i h =
        let b = ltb-true (get_or r.numbers i 0) (row_count rows) (all_at low r.count i (and_right (leb r.count capacity) (all_below low r.count) u) h) in
        below_offered (table_of rows) (get_or r.numbers i 0) b (omega (arith, rows_fit))

    pub may_post : Postable (table_of rows) r
    may_post = record { within = record_fits; lines = line_offered; rows = row_fields }

-- ---- the records of sites

-- the record of site s
site_of : (delivered : List ℕ) (s : ℕ) → s < 7 → of_books.record_no (records_of delivered) s ≡ site_record delivered s
unfolding records_of
site_of delivered s h = get_d_tabulate 7 (site_record delivered) no_record s h

module _ (rows delivered : List ℕ) (t : table_ok rows ≡ true) (u : sites_ok delivered (row_count rows) ≡ true) where
  pub sites_few : site_count delivered ≤ 7
  unfolding sites_ok
  sites_few = parts_few (length delivered) record_size 7 (and_left (whole (length delivered) record_size 7) (each_ok delivered (row_count rows)) u)

  pub sites_may_post : (s : ℕ) → s < site_count delivered → Postable (table_of rows) (of_books.record_no (records_of delivered) s)
  unfolding sites_ok each_ok
  sites_may_post s h =
      let low : s < 7 = omega (arith, sites_few) in
      let each = and_right (whole (length delivered) record_size 7) (each_ok delivered (row_count rows)) u in
      rw (site_of delivered s low)
      (may_post rows t (site_record delivered s) (all_at (λ k. record_ok (site_record delivered k) (row_count rows)) (site_count delivered) s each h))
