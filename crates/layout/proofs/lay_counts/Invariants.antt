-- `lay_counts` meets its contract.
-- Assumes nothing.
use Prim.Native.Nat.{◌≤◌, ◌-◌}
use mathlib.Core.Path.{◌≡◌}
use Rattle.site.specs.Sites.{sites}
use Rattle.layout.specs.Laying.{sites_counts}
use Rattle.layout.proofs.lay_counts.Given as goal

abbrev pub invariant-loop-p : goal.invariant-loop-p
invariant-loop-p l = (l.p ≤ sites) × (l.counts ≡ sites_counts l.initial.counts l.all l.p)
