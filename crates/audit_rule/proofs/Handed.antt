-- Laws of what is handed over in slices: the row of a number is its posting; the lines from one place up to another.
-- Rests on Handed. Assumes nothing.
use Prim.Native.Nat.{ℕ, ◌+◌, ◌-◌, ◌<◌, ◌≤◌}
use mathlib.Core.Path.{◌≡◌, ◌∙◌}
use mathlib.Core.List.{List}
use native.Mathlib.Omega.{arith}
use lib.ListN.{length, get_or, drop, length-drop}
use lib.Seq.{length-take-le, get_or-take, get_or-drop}
use Rattle.posting.specs.Conflicts.{no_posting, row}
use Rattle.books.proofs.Lists.{get_d_tabulate}
use Rattle.audit_rule.specs.Handed.{posting_at, table_of, part}

pub row_at : (kinds firsts seconds amounts : List ℕ) (x : ℕ) → x < length kinds
    → row (table_of kinds firsts seconds amounts) x ≡ posting_at kinds firsts seconds amounts x
unfolding row
row_at kinds firsts seconds amounts x h = get_d_tabulate (length kinds) (posting_at kinds firsts seconds amounts) no_posting x h

-- ---- a part of the lines

pub part_length : (from to : ℕ) (lines : List ℕ) → to ≤ length lines → length (part from to lines) ≡ to - from
part_length from to lines h = length-take-le (to - from) (drop from lines) (let n = length-drop from lines in omega (arith, n, h))

pub part_at : (from to : ℕ) (lines : List ℕ) (i : ℕ) → i < to - from → get_or (part from to lines) i 0 ≡ get_or lines (from + i) 0
part_at from to lines i h = get_or-take (to - from) (drop from lines) i 0 h ∙ get_or-drop from lines i 0
