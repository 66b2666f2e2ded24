-- `cells_ok` meets its contract. The loop's invariant: the cells of the first j blocks pass.
-- Assumes nothing.
use Prim.Native.Nat.{◌*◌, ◌≤◌}
use mathlib.Core.Path.{◌≡◌}
use mathlib.Core.Bool.{true}
use Rattle.sets.specs.Below.{all_below}
use Rattle.flight.specs.Flights.{cells}
use Rattle.cells.specs.Cells.{cell_sound_at, block}
use Rattle.cells.proofs.cells_ok.Given as goal

abbrev pub invariant-loop-j : goal.invariant-loop-j
invariant-loop-j l = (block * l.j ≤ cells) × (all_below (cell_sound_at l.n l.table l.all l.carried l.masks) (block * l.j) ≡ true)
