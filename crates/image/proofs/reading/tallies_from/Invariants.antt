-- `tallies_from` meets its contract.
-- Assumes nothing.
use Prim.Native.Nat.{◌+◌, ◌*◌, ◌≤◌, ◌-◌}
use Rattle.sets.specs.Sets.{capacity}
use Rattle.site.specs.Sites.{no_tally}
use Rattle.image.specs.Layout.{tallies_at, tally_long}
use Rattle.image.specs.Image.{tally_from}
use Rattle.views.proofs.Filled.{Filled}
use Rattle.image.proofs.reading.tallies_from.Given as goal

abbrev pub invariant-loop-m : goal.invariant-loop-m
invariant-loop-m l = (l.m ≤ capacity) × Filled capacity (λ j. tally_from l.image (tallies_at + j * tally_long)) no_tally l.all l.m
