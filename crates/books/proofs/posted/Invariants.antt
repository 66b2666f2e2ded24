-- `books::posted` meets its contract: after i lines the sheet is that of the first i posting numbers.
-- Assumes nothing.
use mathlib.Core.Path.{◌≡◌}
use Prim.Native.Nat.{◌≤◌}
use lib.ListN.{take}
use Rattle.books.specs.Books.{books, figures_on, sheet_of}
use Rattle.books.proofs.posted.Given as goal

abbrev pub invariant-loop-i : goal.invariant-loop-i
invariant-loop-i l = (l.i ≤ l.count) × (l.sheet ≡ sheet_of (books (figures_on l.initial.sheet) l.table (take l.i l.delivered.numbers)))
