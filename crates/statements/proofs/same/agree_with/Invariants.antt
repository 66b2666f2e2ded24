-- `agree_with` meets its contract. The loop's invariant: site p agrees with the first q sites.
-- Assumes nothing.
use mathlib.Core.Path.{◌≡◌}
use Rattle.statements.specs.Table.{agree}
use Prim.Native.Nat.{◌≤◌, ◌-◌}
use mathlib.Core.Bool.{true}
use Rattle.sets.specs.Below.{all_below}
use Rattle.statements.proofs.same.agree_with.Given as goal

abbrev pub invariant-loop-q : goal.invariant-loop-q
invariant-loop-q l = (l.q ≤ l.n) × (all_below (agree l.figures l.down l.p) l.q ≡ true)
