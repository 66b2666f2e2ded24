-- `put_table` meets its contract.
-- Assumes nothing.
use Prim.Native.Nat.{◌≤◌, ◌-◌}
use mathlib.Core.Path.{◌≡◌}
use Rattle.sets.specs.Sets.{capacity}
use Rattle.posting.specs.Conflicts.{no_posting}
use Rattle.image.specs.Layout.{rows_at, row_long}
use Rattle.image.specs.Image.{row_numbers}
use Rattle.image.specs.Stored.{stored}
use Rattle.image.proofs.writing.put_table.Given as goal

abbrev pub invariant-loop-m : goal.invariant-loop-m
invariant-loop-m l = (l.m ≤ capacity) × (l.out ≡ stored row_numbers rows_at row_long l.rows no_posting l.initial.out l.m)
