-- `enter_all` meets its contract: after n rows, m is in these.
-- Assumes nothing.
use Prim.Native.Nat.{◌≤◌, ◌-◌}
use mathlib.Core.Path.{◌≡◌}
use Rattle.arrays.specs.Layout.{index_rows}
use Rattle.index.specs.Index.{entered_to}
use Rattle.index.proofs.enter_all.Given as goal

abbrev pub invariant-loop-row : goal.invariant-loop-row
invariant-loop-row l = (l.row ≤ index_rows) × (l.words ≡ entered_to l.initial.words l.m l.kind l.row)
