-- `lowest_pooled` meets its contract. The loop's invariant: no word before the k-th has a posting.
-- Assumes nothing.
use Prim.Native.Nat.{◌≤◌, ◌-◌}
use Rattle.sets.specs.Sets.{words}
use Rattle.arrays.specs.Layout.{pool_slot}
use Rattle.drain.proofs.Pooled.{NoneBefore}
use Rattle.drain.proofs.next.lowest_pooled.Given as goal

abbrev pub invariant-loop-k : goal.invariant-loop-k
invariant-loop-k l = (l.k ≤ words) × NoneBefore l.words pool_slot l.k
