-- What a record that may be posted says of each line: there is room before and after it.
-- Rests on Growth, on books. Assumes nothing.
use mathlib.Core.Path.{◌≡◌, sym, ap, ◌∙◌, subst⁻¹}
use mathlib.Core.List.{List}
use Prim.Native.Nat.{ℕ, ◌+◌, ◌<◌, ◌≤◌}
use native.Mathlib.Omega.{arith}
use lib.ListN.{length, get_or, take}
use lib.Seq.{length-take-le}
use Rattle.posting.specs.declared.Posting.{Posting}
use Rattle.posting.specs.declared.Table.{Table}
use Rattle.posting.proofs.KindLaws.{Fields, fields}
use Rattle.posting.specs.Conflicts.{row}
use Rattle.books.specs.declared.Sheet.{Sheet}
use Rattle.books.specs.Books.{Books, blank, post, books, sheet_of}
use Rattle.books.specs.Bounds.{Roomy}
use Rattle.books.proofs.Lines.{lawful_take, next_line}
use Rattle.books.proofs.Sheets.{Line}
use Rattle.audit_rule.specs.Handed.{posting_at, table_of}
use Rattle.audit_rule.proofs.Handed.{row_at}
use Rattle.audit_books.specs.Lines.{Postable}
use Rattle.audit_books.proofs.Growth.{blank_grown, books_grown, room}

module _ (kinds firsts seconds amounts lines : List ℕ) (ok : Postable kinds firsts seconds amounts lines) where
  abbrev table : Table
  table = table_of kinds firsts seconds amounts

  -- the books of the first n lines
  abbrev books_to : ℕ → Books
  books_to n = books blank table (take n lines)

  -- the posting of line i
  abbrev posting : ℕ → Posting
  posting i = posting_at kinds firsts seconds amounts (get_or lines i 0)

  row_is : (i : ℕ) → i < length lines → row table (get_or lines i 0) ≡ posting i
  row_is i h = row_at kinds firsts seconds amounts (get_or lines i 0) (ok.known i h)

  line_fields : (i : ℕ) → i < length lines → Fields (posting i)
  line_fields i h = fields (posting i) (ok.lawful i h)

  roomy_to : (n : ℕ) → n ≤ length lines → Roomy (books_to n)
  roomy_to n h k b =
      let size : length (take n lines) ≡ n = length-take-le n lines h in
      room (0 + length (take n lines)) (books_to n k) (omega (arith, ok.few))
      (books_grown table (take n lines) (lawful_take table lines n h each) 0 blank k (blank_grown k))
    where
      each : (j : ℕ) → j < n → Fields (row table (get_or lines j 0))
      each j l = let m : j < length lines = omega arith in subst⁻¹ (λ (p : Posting). Fields p) (row_is j m) (line_fields j m)

  pub line_of : (i : ℕ) → i < length lines → (sheet : Sheet) → sheet ≡ sheet_of (books_to i)
      → Line (books_to i) (posting i) (books_to (i + 1)) sheet
  line_of i h sheet is = record {
    ok = line_fields i h;
    before = roomy_to i (omega arith);
    after = roomy_to (i + 1) (omega arith);
    gives = ap (λ (p : Posting). post p (books_to i)) (sym (row_is i h)) ∙ next_line blank table lines i h;
    is = is;
  }
