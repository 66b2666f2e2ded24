-- `block_ok` meets its contract. The loop's invariant: the first i cells pass.
-- Assumes nothing.
use Prim.Native.Nat.{ℕ, ◌+◌, ◌≤◌}
use mathlib.Core.Path.{◌≡◌}
use mathlib.Core.Bool.{Bool, true}
use mathlib.Core.List.{List}
use Rattle.sets.specs.declared.Set.{Set}
use Rattle.sets.specs.Below.{all_below}
use Rattle.posting.specs.declared.Table.{Table}
use Rattle.cells.specs.Cells.{cell_sound_at, block}
use Rattle.cells.proofs.block_ok.Given as goal

abbrev pub passes : ℕ → Table → Set → List ℕ → List ℕ → ℕ → ℕ → Bool
passes n table all carried masks k i = cell_sound_at n table all carried masks (k + i)

abbrev pub invariant-loop-i : goal.invariant-loop-i
invariant-loop-i l = (l.i ≤ block) × (all_below (passes l.n l.table l.all l.carried l.masks l.k) l.i ≡ true)
