-- `sites_sets` meets its contract.
-- Assumes nothing.
use Prim.Native.Nat.{◌≤◌, ◌-◌}
use mathlib.Core.Path.{◌≡◌}
use Rattle.site.specs.Sites.{sites}
use Rattle.layout.specs.Laying.{sites_sets}
use Rattle.layout.proofs.sites_sets.Given as goal

abbrev pub invariant-loop-p : goal.invariant-loop-p
invariant-loop-p l = (l.p ≤ sites) × (l.words ≡ sites_sets l.initial.words l.all l.p)
