-- `have_sets` meets its contract.
-- Assumes nothing.
use Prim.Native.Nat.{◌≤◌, ◌-◌}
use mathlib.Core.Path.{◌≡◌}
use Rattle.site.specs.Sites.{sites}
use Rattle.layout.specs.Laying.{have_sets}
use Rattle.layout.proofs.have_sets.Given as goal

abbrev pub invariant-loop-p : goal.invariant-loop-p
invariant-loop-p l = (l.p ≤ sites) × (l.words ≡ have_sets l.initial.words l.all l.p)
