-- `record_set` meets its contract. The loop's invariant: the set is that of the first i numbers.
-- Assumes nothing.
use Prim.Native.Nat.{◌≤◌, ◌-◌}
use mathlib.Core.Path.{◌≡◌}
use Rattle.sets.specs.Sets.{capacity}
use Rattle.soundness.proofs.Turns.{first_of}
use Rattle.layout.proofs.record_set.Given as goal

abbrev pub invariant-loop-i : goal.invariant-loop-i
invariant-loop-i l = (l.i ≤ capacity) × (l.i ≤ l.count) × (l.all ≡ first_of l.delivered.numbers l.i)
