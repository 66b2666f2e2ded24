-- `books::books_all` meets its contract: after s sites their numbers stand before what is left of the slice.
-- Assumes nothing.
use mathlib.Core.Path.{◌≡◌}
use mathlib.Core.List.{◌++◌}
use Prim.Native.Nat.{◌*◌, ◌≤◌}
use lib.ListN.{length, drop}
use Rattle.books.specs.Books.{figures_on, numbers_of_sites}
use Rattle.books.proofs.books_all.Given as goal

abbrev pub invariant-loop-s : goal.invariant-loop-s
invariant-loop-s l = (l.s ≤ l.n) × (length l.out ≡ length l.initial.out) × (l.out ≡ numbers_of_sites l.s (figures_on l.opening) l.table l.records ++ drop (64 * l.s) l.initial.out)
