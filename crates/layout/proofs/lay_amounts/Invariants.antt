-- `lay_amounts` meets its contract.
-- Assumes nothing.
use Prim.Native.Nat.{◌≤◌, ◌-◌}
use mathlib.Core.Path.{◌≡◌}
use Rattle.sets.specs.Sets.{capacity}
use Rattle.layout.specs.Laying.{laying_amounts}
use Rattle.layout.proofs.lay_amounts.Given as goal

abbrev pub invariant-loop-m : goal.invariant-loop-m
invariant-loop-m l = (l.m ≤ capacity) × (l.amounts ≡ laying_amounts l.initial.amounts l.rows l.m)
