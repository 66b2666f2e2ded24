-- `table_from` meets its contract.
-- Assumes nothing.
use Prim.Native.Nat.{◌+◌, ◌*◌, ◌≤◌, ◌-◌}
use Rattle.sets.specs.Sets.{capacity}
use Rattle.posting.specs.Conflicts.{no_posting}
use Rattle.image.specs.Layout.{rows_at, row_long}
use Rattle.image.specs.Image.{row_from}
use Rattle.views.proofs.Filled.{Filled}
use Rattle.image.proofs.reading.table_from.Given as goal

abbrev pub invariant-loop-m : goal.invariant-loop-m
invariant-loop-m l = (l.m ≤ capacity) × Filled capacity (λ j. row_from l.image (rows_at + j * row_long)) no_posting l.rows l.m
