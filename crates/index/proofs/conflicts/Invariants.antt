-- `conflicts` meets its contract.
-- Assumes nothing.
use Prim.Native.Nat.{◌≤◌, ◌-◌}
use mathlib.Core.Path.{◌≡◌}
use Rattle.posting.specs.Kinds.{kinds}
use Rattle.index.specs.Index.{kinds_to}
use Rattle.index.proofs.conflicts.Given as goal

abbrev pub invariant-loop-k : goal.invariant-loop-k
invariant-loop-k l = (l.k ≤ kinds) × (l.s ≡ kinds_to l.words l.matrix l.kind l.first l.second l.k)
