-- The figures of a record handed over: what is refused, by the audit's numbers, and the slice after the call.
-- Rests on books, audit_rule's Handed and audit_input.
use Rattle.std.specs.Prelude.{ℕ, cond, ◌&&◌, List, ◌++◌, eqb, ltb, leb, ℤ, length, drop}
use Rattle.books.specs.Books.{books, blank, numbers}
use Rattle.audit_rule.specs.Audit.{lowest}
use Rattle.audit_rule.specs.Handed.{table_of}
use Rattle.audit_input.specs.Input.{fields_long, unlawful, unknown_line}

-- the most lines
abbrev pub most_lines : ℕ
most_lines = 65536

module _ (kinds firsts seconds amounts lines : List ℕ) where
  -- 3 sizes, 5 fields outside their row, 7 a number that has no posting; 0 if none applies
  unfoldable pub figures_code : (room : ℕ) → ℕ
  figures_code room =
      cond (fields_long (length kinds) (length firsts) (length seconds) (length amounts) && (leb (length lines) most_lines && leb 64 room))
      (cond (ltb (lowest (unlawful kinds firsts seconds amounts) (length kinds)) (length kinds)) 5
      (cond (ltb (unknown_line kinds lines) (length lines)) 7 0))
      3

  -- the slice after the call: its first 64 numbers are the record's, or it is as it was
  unfoldable pub figures_slice : List ℤ → List ℤ
  figures_slice out = cond (eqb (figures_code (length out)) 0) (numbers (books blank (table_of kinds firsts seconds amounts) lines) ++ drop 64 out) out
