-- `entries_of` meets its contract.
-- Assumes nothing.
use Prim.Native.Nat.{◌≤◌, ◌-◌}
use Rattle.sets.specs.Sets.{capacity}
use Rattle.site.specs.Sites.{no_set}
use Rattle.arrays.specs.Layout.{entry_of}
use Rattle.arrays.specs.Arrays.{slot_set}
use Rattle.views.proofs.Filled.{Filled}
use Rattle.views.proofs.entries_of.Given as goal

abbrev pub invariant-loop-m : goal.invariant-loop-m
invariant-loop-m l = (l.m ≤ capacity) × Filled capacity (λ q. slot_set l.board.sets (entry_of q)) no_set l.all l.m
