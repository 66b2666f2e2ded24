-- `put_entries` meets its contract.
-- Assumes nothing.
use Prim.Native.Nat.{◌≤◌, ◌-◌}
use mathlib.Core.Path.{◌≡◌}
use Rattle.sets.specs.Sets.{words, capacity}
use Rattle.site.specs.Sites.{no_set}
use Rattle.image.specs.Layout.{entries_at}
use Rattle.image.specs.Image.{set_numbers}
use Rattle.image.specs.Stored.{stored}
use Rattle.image.proofs.writing.put_entries.Given as goal

abbrev pub invariant-loop-m : goal.invariant-loop-m
invariant-loop-m l = (l.m ≤ capacity) × (l.out ≡ stored set_numbers entries_at words l.all no_set l.initial.out l.m)
