-- `books_all` meets its contract.
-- Assumes nothing.
use Prim.Native.Nat.{ℕ, ◌*◌, ◌/◌, ◌<◌, ◌≤◌}
use mathlib.Core.Path.{◌≡◌, sym, ap, ◌∙◌}
use mathlib.Core.List.{List, ◌++◌}
use mathlib.Core.Bool.{true, false}
use native.Mathlib.Omega.{arith}
use lib.Dec.{leb}
use lib.ListN.{length, drop}
use lib.IntN.{ℤ}
use borrow.Author.Tests.{le-leb, lt-leb}
use Rattle.books.proofs.Sheets.{blank_opening}
use Rattle.books.specs.Books.{blank, numbers_of_sites}
use Rattle.by_bytes.specs.Bytes.{row_count, table_of, site_count, records_of, table_ok, sites_ok}
use Rattle.by_bytes.specs.Answers.{answer, books_all_ok, books_all_out}
use Rattle.by_bytes.proofs.Outcomes.{is_refused, is_done, sites_read}
use Rattle.by_bytes.proofs.Reading.{sites_few, sites_may_post}
use Rattle.by_bytes.proofs.books_all.Goals as goal
use Rattle.by_bytes.proofs.books_all.Goals.{Then-sites_ok}

no : (rows delivered : List ℕ) (out : List ℤ) → books_all_ok rows delivered out ≡ false
    → (255 ≡ answer (books_all_ok rows delivered out)) × (out ≡ books_all_out rows delivered out)
unfolding books_all_out
no rows delivered out =
    let n = site_count delivered in
    is_refused (books_all_ok rows delivered out) (numbers_of_sites n blank (table_of rows) (records_of delivered) ++ drop (64 * n) out) out

-- the test of the slice
no-places : (delivered : List ℕ) (out : List ℤ) → length out / 64 < site_count delivered → leb (64 * site_count delivered) (length out) ≡ false
no-places delivered out h = lt-leb (64 * site_count delivered) (length out) (omega arith)

places : (delivered : List ℕ) (out : List ℤ) → site_count delivered ≤ length out / 64 → leb (64 * site_count delivered) (length out) ≡ true
places delivered out h = le-leb (64 * site_count delivered) (length out) (omega arith)

-- where all tests passed
module _ (c : Then-sites_ok) where
  abbrev rows : List ℕ
  rows = c.args.rows.now

  abbrev delivered : List ℕ
  delivered = c.args.delivered.now

  table-passes : table_ok rows ≡ true
  table-passes = sym c.table_ok.ensures ∙ c.if-table_ok.true

  sites-pass : sites_ok delivered (row_count rows) ≡ true
  sites-pass = sym c.sites_ok.ensures ∙ c.if-sites_ok.true

pub returns-then-out-n : goal.returns-then-out-n
unfolding books_all_ok
returns-then-out-n c =
    let args = c.args in record { value = (no args.rows.now args.delivered.now args.out.now (rw (no-places args.delivered.now args.out.now c.if-out-n.true))).0; out_after = (no args.rows.now args.delivered.now args.out.now (rw (no-places args.delivered.now args.out.now c.if-out-n.true))).1 }

pub books_all-requires : goal.books_all-requires
books_all-requires c =
    let out = c.args.out.now in
    rw (c.table_of-table.ensures, c.records_of-records.ensures, c.blank-opening.ensures) (
      sites_may_post (rows (goal.at.books_all-requires c).Then-sites_ok) (delivered (goal.at.books_all-requires c).Then-sites_ok) (table-passes (goal.at.books_all-requires c).Then-sites_ok) (sites-pass (goal.at.books_all-requires c).Then-sites_ok),
      blank_opening,
      sites_few (rows (goal.at.books_all-requires c).Then-sites_ok) (delivered (goal.at.books_all-requires c).Then-sites_ok) (table-passes (goal.at.books_all-requires c).Then-sites_ok) (sites-pass (goal.at.books_all-requires c).Then-sites_ok),
      omega arith,
    )

pub returns-then-sites_ok : goal.returns-then-sites_ok
unfolding books_all_ok books_all_out
returns-then-sites_ok c =
    let out = c.args.out.now in
    let n = site_count (delivered (goal.at.returns-then-sites_ok c).Then-sites_ok) in record {
      value = (is_done (books_all_ok (rows (goal.at.returns-then-sites_ok c).Then-sites_ok) (delivered (goal.at.returns-then-sites_ok c).Then-sites_ok) out) (numbers_of_sites n blank (table_of (rows (goal.at.returns-then-sites_ok c).Then-sites_ok)) (records_of (delivered (goal.at.returns-then-sites_ok c).Then-sites_ok)) ++ drop (64 * n) out) out
          (rw (places (delivered (goal.at.returns-then-sites_ok c).Then-sites_ok) out c.if-out-n.false, table-passes (goal.at.returns-then-sites_ok c).Then-sites_ok, sites-pass (goal.at.returns-then-sites_ok c).Then-sites_ok))
          (c.books_all.ensures
          ∙ ap (λ (l : List ℤ). l ++ drop (64 * n) out)
          (sites_read (rows (goal.at.returns-then-sites_ok c).Then-sites_ok) (delivered (goal.at.returns-then-sites_ok c).Then-sites_ok) c.table_of-table.ensures c.blank-opening.ensures c.records_of-records.ensures n))).0;
      out_after = (is_done (books_all_ok (rows (goal.at.returns-then-sites_ok c).Then-sites_ok) (delivered (goal.at.returns-then-sites_ok c).Then-sites_ok) out) (numbers_of_sites n blank (table_of (rows (goal.at.returns-then-sites_ok c).Then-sites_ok)) (records_of (delivered (goal.at.returns-then-sites_ok c).Then-sites_ok)) ++ drop (64 * n) out) out
          (rw (places (delivered (goal.at.returns-then-sites_ok c).Then-sites_ok) out c.if-out-n.false, table-passes (goal.at.returns-then-sites_ok c).Then-sites_ok, sites-pass (goal.at.returns-then-sites_ok c).Then-sites_ok))
          (c.books_all.ensures
          ∙ ap (λ (l : List ℤ). l ++ drop (64 * n) out)
          (sites_read (rows (goal.at.returns-then-sites_ok c).Then-sites_ok) (delivered (goal.at.returns-then-sites_ok c).Then-sites_ok) c.table_of-table.ensures c.blank-opening.ensures c.records_of-records.ensures n))).1;
    }

pub returns-then-table_ok : goal.returns-then-table_ok
unfolding books_all_ok
returns-then-table_ok c =
    let args = c.args in record {
      value = (no args.rows.now args.delivered.now args.out.now
          (rw (
            places args.delivered.now args.out.now c.if-out-n.false,
            sym c.table_ok.ensures ∙ c.if-table_ok.true,
            sym c.sites_ok.ensures ∙ c.if-sites_ok.false,
          ))).0;
      out_after = (no args.rows.now args.delivered.now args.out.now
          (rw (
            places args.delivered.now args.out.now c.if-out-n.false,
            sym c.table_ok.ensures ∙ c.if-table_ok.true,
            sym c.sites_ok.ensures ∙ c.if-sites_ok.false,
          ))).1;
    }

pub returns : goal.returns
unfolding books_all_ok
returns c =
    let args = c.args in record {
      value = (no args.rows.now args.delivered.now args.out.now
          (rw (places args.delivered.now args.out.now c.if-out-n.false, sym c.table_ok.ensures ∙ c.if-table_ok.false))).0;
      out_after = (no args.rows.now args.delivered.now args.out.now
          (rw (places args.delivered.now args.out.now c.if-out-n.false, sym c.table_ok.ensures ∙ c.if-table_ok.false))).1;
    }
