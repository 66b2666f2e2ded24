-- `paste` meets its contract.
-- Assumes nothing.
use Prim.Native.Nat.{◌≤◌, ◌-◌}
use mathlib.Core.Path.{◌≡◌}
use lib.ListN.{take}
use lib.Seq.{sets}
use Rattle.sets.specs.Sets.{capacity}
use Rattle.layout.proofs.paste.Given as goal

abbrev pub invariant-loop-k : goal.invariant-loop-k
invariant-loop-k l = (l.k ≤ capacity) × (l.bytes ≡ sets l.initial.bytes l.at (take l.k l.values))
