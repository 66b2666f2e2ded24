-- `books` meets its contract.
-- Assumes nothing.
use Prim.Native.Nat.{ℕ, ◌≤◌}
use mathlib.Core.List.{List, ◌++◌}
use mathlib.Core.Path.{◌≡◌, sym, ap, ◌∙◌}
use mathlib.Core.Bool.{true, false}
use lib.IntN.{ℤ}
use lib.ListN.{length, drop}
use borrow.Author.Tests.{le-leb, lt-leb}
use borrow.Author.Rules.{rules}
use Rattle.sets.specs.Sets.{capacity}
use Rattle.posting.specs.declared.Record.{Record}
use Rattle.books.proofs.Sheets.{blank_opening}
use Rattle.books.specs.Books.{blank, books, numbers}
use Rattle.by_bytes.specs.Bytes.{row_count, table_of, record_at, record_of_bytes, table_ok, record_ok}
use Rattle.by_bytes.specs.Answers.{answer, books_ok, books_out}
use Rattle.by_bytes.proofs.Reading.{record_fits, may_post}
use Rattle.by_bytes.proofs.Outcomes.{is_refused, is_done, books_read}
use Rattle.by_bytes.proofs.books.Goals as goal
use Rattle.by_bytes.proofs.books.Goals.{After-record_ok, Then-record_ok}

no : (rows delivered : List ℕ) (out : List ℤ) → books_ok rows delivered out ≡ false
    → (255 ≡ answer (books_ok rows delivered out)) × (out ≡ books_out rows delivered out)
unfolding books_out
no rows delivered out = is_refused (books_ok rows delivered out) (numbers (books blank (table_of rows) delivered) ++ drop 64 out) out

-- where all tests passed
module _ (c : Then-record_ok) where
  abbrev rows : List ℕ
  rows = c.args.rows.now

  abbrev delivered : List ℕ
  delivered = c.args.delivered.now

  table-passes : table_ok rows ≡ true
  table-passes = sym c.table_ok.ensures ∙ c.if-table_ok.true

  record-passes : record_ok (record_of_bytes delivered) (row_count rows) ≡ true
  record-passes = sym (c.record_ok.ensures ∙ ap (λ (r : Record). record_ok r (row_count rows)) c.record_of-lines.ensures) ∙ c.if-record_ok.true

  short : length delivered ≤ capacity
  unfolding record_of_bytes record_at
  short = record_fits rows table-passes (record_of_bytes delivered) record-passes

pub returns-then-out-lt-FIGURES : goal.returns-then-out-lt-FIGURES
unfolding books_ok
returns-then-out-lt-FIGURES c =
    let args = c.args in let shown = no args.rows.now args.delivered.now args.out.now (rw (lt-leb 64 (length args.out.now) c.if-out-lt-FIGURES.true)) in record { value = shown.0; out_after = shown.1 }

pub books-requires : goal.books-requires
books-requires c =
    let at = (goal.at.books-requires c).Then-record_ok in
    rw (c.table_of-table.ensures, c.record_of-lines.ensures, c.blank-opening.ensures)
    (may_post (rows at) (table-passes at) (record_of_bytes (delivered at)) (record-passes at), blank_opening, search rules)

pub returns-then-record_ok : goal.returns-then-record_ok
unfolding books_ok books_out
returns-then-record_ok c =
    let at = (goal.at.returns-then-record_ok c).Then-record_ok in
    let out = c.args.out.now in let shown = is_done (books_ok (rows at) (delivered at) out) (numbers (books blank (table_of (rows at)) (delivered at)) ++ drop 64 out) out
    (rw (le-leb 64 (length out) c.if-out-lt-FIGURES.false, table-passes at, record-passes at))
    (c.books.ensures
    ∙ ap (λ (l : List ℤ). l ++ drop 64 out)
    (books_read (rows at) (delivered at) c.table_of-table.ensures c.blank-opening.ensures c.record_of-lines.ensures (short at))) in record { value = shown.0; out_after = shown.1 }

pub returns-then-table_ok : goal.returns-then-table_ok
unfolding books_ok
returns-then-table_ok c =
    let args = c.args in let shown = no args.rows.now args.delivered.now args.out.now
    (rw (
      le-leb 64 (length args.out.now) c.if-out-lt-FIGURES.false,
      sym c.table_ok.ensures ∙ c.if-table_ok.true,
      sym (c.record_ok.ensures ∙ ap (λ (r : Record). record_ok r (row_count c.args.rows.now)) c.record_of-lines.ensures) ∙ c.if-record_ok.false,
    )) in record { value = shown.0; out_after = shown.1 }

pub returns : goal.returns
unfolding books_ok
returns c =
    let args = c.args in let shown = no args.rows.now args.delivered.now args.out.now
    (rw (le-leb 64 (length args.out.now) c.if-out-lt-FIGURES.false, sym c.table_ok.ensures ∙ c.if-table_ok.false)) in record { value = shown.0; out_after = shown.1 }
