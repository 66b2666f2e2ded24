-- `index_rows` meets its contract.
-- Assumes nothing.
use Prim.Native.Nat.{◌≤◌, ◌-◌}
use mathlib.Core.Path.{◌≡◌}
use Rattle.layout.specs.Laying.{indexed_to}
use Rattle.layout.proofs.index_rows.Given as goal

abbrev pub invariant-loop-m : goal.invariant-loop-m
invariant-loop-m l = (l.m ≤ l.count) × (l.words ≡ indexed_to l.initial.words (record { count = l.count; rows = l.rows }) l.m)
