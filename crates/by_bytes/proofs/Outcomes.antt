-- What a function that refuses or does its work leaves and answers; the room that was tested; the books of what was read.
-- Rests on Answers. Assumes nothing.
use Prim.Native.Nat.{ℕ, ◌≤◌}
use mathlib.Core.Path.{◌≡◌, refl}
use mathlib.Core.Bool.{Bool, true, false, cond, ◌&&◌}
use mathlib.Core.List.{List}
use lib.Dec.{leb}
use lib.IntN.{ℤ, pos, nat_abs}
use lib.ListN.{length, get_or}
use mir.Syntax.{w64}
use mir.Val.{SFits}
use mir.Facts.{to_z-of_z}
use borrow.Author.Tests.{leb-true}
use Rattle.sets.proofs.Truth.{and_left, and_right}
use Rattle.sets.specs.Sets.{capacity}
use Rattle.posting.specs.declared.Table.{Table}
use Rattle.posting.specs.declared.Record.{Record}
use Rattle.posting.specs.Records.{numbers_of}
use Rattle.books.specs.declared.Figures.{Figures}
use Rattle.books.specs.declared.Sheet.{Sheet}
use Rattle.books.specs.declared.Records.{Records}
use Rattle.books.specs.Books.{blank, books, numbers, numbers_of_sites, figures_on, sheet_of}
use Rattle.books.specs.Bounds.{Room}
use Rattle.books.proofs.Signed.{read_back}
use Rattle.books.proofs.Sheets.{blank_figures}
use Rattle.by_bytes.specs.Bytes.{table_of, record_of_bytes, records_of}
use Rattle.by_bytes.specs.Answers.{answer, roomy, figures_at}
use Rattle.by_bytes.proofs.Reading.{numbers_of_lem}

-- the answer and the slice, by whether all tests passed: what is done, or what is kept
module _ {A : Type 0} (ok : Bool) (done kept : List A) where
  pub is_refused : ok ≡ false → (255 ≡ answer ok) × (kept ≡ cond ok done kept)
  is_refused f = rw f (refl, refl)

  pub is_done : {left : List A} → ok ≡ true → left ≡ done → (0 ≡ answer ok) × (left ≡ cond ok done kept)
  is_done t e = rw t (refl, e)

-- figures that pass the test have room for one posting more
pub has_room : (s : Figures) → roomy s ≡ true → Room s
unfolding roomy
has_room s t =
    let p = leb (nat_abs s.position) 200000000000000 in
    let r = leb (nat_abs s.rate) 10000 in
    let c = leb (nat_abs s.called) 4000000000000000000 in
    let e = leb (nat_abs s.settled) 4000000000000000000 in
    let t1 = and_right p (r && (c && e)) t in
    let t2 = and_right r (c && e) t1 in
    record {
      position = leb-true (nat_abs s.position) 200000000000000 (and_left p (r && (c && e)) t);
      rate = leb-true (nat_abs s.rate) 10000 (and_left r (c && e) t1);
      called = leb-true (nat_abs s.called) 4000000000000000000 (and_left c e t2);
      settled = leb-true (nat_abs s.settled) 4000000000000000000 (and_right c e t2);
    }

-- what the machine reads of four numbers
abbrev pub read_figures : List ℤ → Figures
read_figures l = record {
  position = read_back (get_or l 0 (pos 0));
  rate = read_back (get_or l 1 (pos 0));
  called = read_back (get_or l 2 (pos 0));
  settled = read_back (get_or l 3 (pos 0));
}

pub figures_read : (l : List ℤ) → SFits w64 (get_or l 0 (pos 0)) → SFits w64 (get_or l 1 (pos 0)) → SFits w64 (get_or l 2 (pos 0)) → SFits w64 (get_or l 3 (pos 0))
    → read_figures l ≡ figures_at l
figures_read l a b c d = rw (to_z-of_z a, to_z-of_z b, to_z-of_z c, to_z-of_z d)

-- ---- the books of what was read

module _ (rows delivered : List ℕ) {table : Table} {opening : Sheet} (et : table ≡ table_of rows) (eo : opening ≡ sheet_of blank) where
  pub books_read : {lines : Record} → lines ≡ record_of_bytes delivered → length delivered ≤ capacity
      → numbers (books (figures_on opening) table (numbers_of lines)) ≡ numbers (books blank (table_of rows) delivered)
  books_read e short = rw (et, eo, e, blank_figures, numbers_of_lem delivered short)

  pub sites_read : {records : Records} → records ≡ records_of delivered → (n : ℕ)
      → numbers_of_sites n (figures_on opening) table records ≡ numbers_of_sites n blank (table_of rows) (records_of delivered)
  sites_read e n = rw (et, eo, e, blank_figures)
