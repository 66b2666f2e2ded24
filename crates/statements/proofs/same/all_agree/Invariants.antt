-- `all_agree` meets its contract. The loop's invariant: the first p sites agree with all.
-- Assumes nothing.
use mathlib.Core.Path.{◌≡◌}
use Rattle.statements.specs.Table.{agree_with}
use Prim.Native.Nat.{◌≤◌, ◌-◌}
use mathlib.Core.Bool.{true}
use Rattle.sets.specs.Below.{all_below}
use Rattle.statements.proofs.same.all_agree.Given as goal

abbrev pub invariant-loop-p : goal.invariant-loop-p
invariant-loop-p l = (l.p ≤ l.n) × (all_below (agree_with l.figures l.n l.down) l.p ≡ true)
