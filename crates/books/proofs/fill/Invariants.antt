-- `books::fill` meets its contract: after k accounts their numbers stand before what is left of the slice.
-- Assumes nothing.
use mathlib.Core.Path.{◌≡◌}
use mathlib.Core.List.{◌++◌}
use Prim.Native.Nat.{◌*◌}
use lib.ListN.{length, drop}
use Rattle.books.specs.Books.{numbers_to, figures_on}
use Rattle.books.proofs.fill.Given as goal

abbrev pub invariant-loop-k : goal.invariant-loop-k
invariant-loop-k l = (length l.out ≡ length l.initial.out) × (l.out ≡ numbers_to l.k (figures_on l.fn.sheet) ++ drop (4 * l.k) l.initial.out)
