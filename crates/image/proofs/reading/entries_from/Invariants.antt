-- `entries_from` meets its contract.
-- Assumes nothing.
use Prim.Native.Nat.{◌+◌, ◌*◌, ◌≤◌, ◌-◌}
use Rattle.sets.specs.Sets.{words, capacity}
use Rattle.site.specs.Sites.{no_set}
use Rattle.image.specs.Layout.{entries_at}
use Rattle.image.specs.Image.{set_from}
use Rattle.views.proofs.Filled.{Filled}
use Rattle.image.proofs.reading.entries_from.Given as goal

abbrev pub invariant-loop-m : goal.invariant-loop-m
invariant-loop-m l = (l.m ≤ capacity) × Filled capacity (λ j. set_from l.image (entries_at + j * words)) no_set l.all l.m
