-- `tallies_of` meets its contract.
-- Assumes nothing.
use Prim.Native.Nat.{◌≤◌}
use Rattle.sets.specs.Sets.{capacity}
use Rattle.site.specs.Sites.{no_tally}
use Rattle.views.specs.Views.{tally_of}
use Rattle.views.proofs.Filled.{Filled}
use Rattle.views.proofs.tallies_of.Given as goal

abbrev pub invariant-loop-m : goal.invariant-loop-m
invariant-loop-m l = (l.m ≤ capacity) × Filled capacity (tally_of l.board) no_tally l.all l.m
