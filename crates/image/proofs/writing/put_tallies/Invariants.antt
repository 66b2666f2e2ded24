-- `put_tallies` meets its contract.
-- Assumes nothing.
use Prim.Native.Nat.{◌≤◌, ◌-◌}
use mathlib.Core.Path.{◌≡◌}
use Rattle.sets.specs.Sets.{capacity}
use Rattle.site.specs.Sites.{no_tally}
use Rattle.image.specs.Layout.{tallies_at, tally_long}
use Rattle.image.specs.Image.{tally_numbers}
use Rattle.image.specs.Stored.{stored}
use Rattle.image.proofs.writing.put_tallies.Given as goal

abbrev pub invariant-loop-m : goal.invariant-loop-m
invariant-loop-m l = (l.m ≤ capacity) × (l.out ≡ stored tally_numbers tallies_at tally_long l.all no_tally l.initial.out l.m)
