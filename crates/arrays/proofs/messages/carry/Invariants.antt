-- `carry` meets its contract. The loop's invariant: the first k words are stored.
-- Assumes nothing.
use Prim.Native.Nat.{◌≤◌, ◌*◌, ◌-◌}
use mathlib.Core.Path.{◌≡◌}
use lib.ListN.{take}
use lib.Seq.{sets}
use Rattle.sets.specs.Sets.{words}
use Rattle.arrays.proofs.messages.carry.Given as goal

abbrev pub invariant-loop-k : goal.invariant-loop-k
invariant-loop-k l = (l.k ≤ words) × (l.carried ≡ sets l.initial.carried (words * l.i) (take l.k l.load.words))
