-- `left_by` meets its contract.
-- Assumes nothing.
use Prim.Native.Nat.{◌≤◌, ◌-◌}
use mathlib.Core.Path.{◌≡◌}
use Rattle.by_value.proofs.LeftBy.{after}
use Rattle.by_value.proofs.run.left_by.Given as goal

abbrev pub invariant-loop-k : goal.invariant-loop-k
invariant-loop-k l = (l.k ≤ l.count) × (l.after ≡ after l.initial.after l.input l.k)
