-- `pass_at` meets its contract: after i lines the sheet is that of the first i posting numbers, and i places were visited.
-- Assumes nothing.
use mathlib.Core.Path.{◌≡◌}
use mathlib.Core.List.{[]}
use Prim.Native.Nat.{◌≤◌, ◌-◌}
use lib.ListN.{take}
use Rattle.books.specs.Books.{blank, books, sheet_of}
use Rattle.views.specs.Views.{record_in, table_of}
use Rattle.passes.proofs.pass_at.Given as goal

abbrev pub invariant-loop-i : goal.invariant-loop-i
invariant-loop-i l = (l.i ≤ l.count)
    × (l.sheet ≡ sheet_of (books blank (table_of l.board) (take l.i (record_in l.board l.site).numbers)))
    × (l.places ≡ l.i)
