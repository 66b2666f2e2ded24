-- `receivers` meets its contract. The loop's invariant: the masks of the first i cells are joined.
-- Assumes nothing.
use Prim.Native.Nat.{◌≤◌}
use mathlib.Core.Path.{◌≡◌}
use Rattle.cells.specs.Cells.{block, joined}
use Rattle.cells.proofs.receivers.Given as goal

abbrev pub invariant-loop-i : goal.invariant-loop-i
invariant-loop-i l = (l.i ≤ block) × (l.some ≡ joined l.masks l.k l.i)
