-- `next_reader` meets its contract. The loop's invariant: no site below p has log left.
-- Assumes nothing.
use Prim.Native.Nat.{◌≤◌, ◌-◌}
use mathlib.Core.Path.{◌≡◌}
use Rattle.drain.specs.Firsts.{first_below, reads}
use Rattle.drain.proofs.next.next_reader.Given as goal

abbrev pub invariant-loop-p : goal.invariant-loop-p
invariant-loop-p l = (l.p ≤ l.n) × (first_below (reads l.counts l.down) l.p ≡ l.p)
