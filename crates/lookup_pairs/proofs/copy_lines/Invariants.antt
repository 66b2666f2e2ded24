-- `copy_lines` meets its contract: after i pairs their lines stand before what is left of the slice.
-- Assumes nothing.
use Prim.Native.Nat.{◌*◌, ◌≤◌, ◌-◌}
use mathlib.Core.Path.{◌≡◌}
use mathlib.Core.List.{◌++◌}
use lib.ListN.{length, drop}
use Rattle.lookup_pairs.specs.Pairs.{lines_to}
use Rattle.lookup_pairs.specs.Gathered.{block_of}
use Rattle.lookup_pairs.proofs.copy_lines.Given as goal

abbrev pub invariant-loop-i : goal.invariant-loop-i
invariant-loop-i l = (l.i ≤ l.count) × (length l.out ≡ length l.initial.out) × (l.out ≡ lines_to l.i (block_of l.figures) l.pairs ++ drop (4 * l.i) l.initial.out)
