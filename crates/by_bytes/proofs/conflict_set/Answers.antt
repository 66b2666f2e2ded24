-- `conflict_set` meets its contract.
-- Assumes nothing.
use Prim.Native.Nat.{ℕ}
use mathlib.Core.List.{List, ◌++◌}
use mathlib.Core.Bool.{false}
use mathlib.Core.Path.{◌≡◌, sym, ap, ◌∙◌}
use native.Mathlib.Omega.{arith}
use lib.Seq.{take_all}
use lib.ListN.{length, take, drop}
use borrow.Author.Tests.{lt-ltb, le-ltb, le-leb, lt-leb}
use Rattle.sets.specs.declared.Set.{Set}
use Rattle.sets.specs.Sets.{words}
use Rattle.posting.proofs.ConflictLaws.{conflict_set_shape}
use Rattle.posting.specs.declared.Table.{Table}
use Rattle.posting.specs.Conflicts.{conflict_set}
use Rattle.by_bytes.specs.Answers.{answer, conflict_set_ok, conflict_set_out}
use Rattle.by_bytes.specs.Bytes.{row_count, table_of}
use Rattle.by_bytes.proofs.Outcomes.{is_refused, is_done}
use Rattle.by_bytes.proofs.conflict_set.Goals as goal

no : (matrix : ℕ) (rows : List ℕ) (m : ℕ) (out : List ℕ) → conflict_set_ok rows m out ≡ false
    → (255 ≡ answer (conflict_set_ok rows m out)) × (out ≡ conflict_set_out matrix rows m out)
unfolding conflict_set_out
no matrix rows m out = is_refused (conflict_set_ok rows m out) ((conflict_set matrix (table_of rows) m).words ++ drop words out) out

all_words : (matrix : ℕ) (t : Table) (m : ℕ) → take words (conflict_set matrix t m).words ≡ (conflict_set matrix t m).words
all_words matrix t m = take_all words (conflict_set matrix t m).words (omega (arith, (conflict_set_shape matrix t m).long))

pub returns-then-rows-m : goal.returns-then-rows-m
unfolding conflict_set_ok
returns-then-rows-m c =
    let args = c.args in record {
      value = (no args.matrix args.rows.now args.m args.out.now
          (rw (sym c.whole.ensures ∙ c.if-whole.true, le-ltb args.m (row_count args.rows.now) c.if-rows-m.true))).0;
      out_after = (no args.matrix args.rows.now args.m args.out.now
          (rw (sym c.whole.ensures ∙ c.if-whole.true, le-ltb args.m (row_count args.rows.now) c.if-rows-m.true))).1;
    }

pub returns-then-out-lt-WORDS : goal.returns-then-out-lt-WORDS
unfolding conflict_set_ok
returns-then-out-lt-WORDS c =
    let args = c.args in record {
      value = (no args.matrix args.rows.now args.m args.out.now
          (rw (
            sym c.whole.ensures ∙ c.if-whole.true,
            lt-ltb args.m (row_count args.rows.now) c.if-rows-m.false,
            lt-leb words (length args.out.now) c.if-out-lt-WORDS.true,
          ))).0;
      out_after = (no args.matrix args.rows.now args.m args.out.now
          (rw (
            sym c.whole.ensures ∙ c.if-whole.true,
            lt-ltb args.m (row_count args.rows.now) c.if-rows-m.false,
            lt-leb words (length args.out.now) c.if-out-lt-WORDS.true,
          ))).1;
    }

pub returns-then-whole : goal.returns-then-whole
unfolding conflict_set_ok conflict_set_out
returns-then-whole c =
    let args = c.args in
    let rows = args.rows.now in
    let out = args.out.now in
    let set = conflict_set args.matrix (table_of rows) args.m in record {
      value = (is_done (conflict_set_ok rows args.m out) (set.words ++ drop words out) out
          (rw (
            sym c.whole.ensures ∙ c.if-whole.true,
            lt-ltb args.m (row_count rows) c.if-rows-m.false,
            le-leb words (length out) c.if-out-lt-WORDS.false,
          ))
          (c.put_words.ensures
          ∙ ap (λ (l : List ℕ). l ++ drop words out)
          (ap (λ (s : Set). take words s.words) (c.conflict_set-set.ensures ∙ ap (λ (t : Table). conflict_set args.matrix t args.m) c.table_of-table.ensures)
          ∙ all_words args.matrix (table_of rows) args.m))).0;
      out_after = (is_done (conflict_set_ok rows args.m out) (set.words ++ drop words out) out
          (rw (
            sym c.whole.ensures ∙ c.if-whole.true,
            lt-ltb args.m (row_count rows) c.if-rows-m.false,
            le-leb words (length out) c.if-out-lt-WORDS.false,
          ))
          (c.put_words.ensures
          ∙ ap (λ (l : List ℕ). l ++ drop words out)
          (ap (λ (s : Set). take words s.words) (c.conflict_set-set.ensures ∙ ap (λ (t : Table). conflict_set args.matrix t args.m) c.table_of-table.ensures)
          ∙ all_words args.matrix (table_of rows) args.m))).1;
    }

pub returns : goal.returns
unfolding conflict_set_ok
returns c =
    let args = c.args in record { value = (no args.matrix args.rows.now args.m args.out.now (rw (sym c.whole.ensures ∙ c.if-whole.false))).0; out_after = (no args.matrix args.rows.now args.m args.out.now (rw (sym c.whole.ensures ∙ c.if-whole.false))).1 }
