-- `table_of` meets its contract.
-- Assumes nothing.
use Prim.Native.Nat.{◌≤◌}
use Rattle.sets.specs.Sets.{capacity}
use Rattle.posting.specs.Conflicts.{no_posting}
use Rattle.views.specs.Views.{row_of}
use Rattle.views.proofs.Filled.{Filled}
use Rattle.views.proofs.table_of.Given as goal

abbrev pub invariant-loop-m : goal.invariant-loop-m
invariant-loop-m l = (l.m ≤ capacity) × Filled capacity (row_of l.board) no_posting l.rows l.m
