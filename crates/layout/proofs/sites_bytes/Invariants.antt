-- `sites_bytes` meets its contract.
-- Assumes nothing.
use Prim.Native.Nat.{◌≤◌, ◌-◌}
use mathlib.Core.Path.{◌≡◌}
use Rattle.site.specs.Sites.{sites}
use Rattle.layout.specs.Laying.{sites_bytes}
use Rattle.layout.proofs.sites_bytes.Given as goal

abbrev pub invariant-loop-p : goal.invariant-loop-p
invariant-loop-p l = (l.p ≤ sites) × (l.bytes ≡ sites_bytes l.initial.bytes l.all l.p)
