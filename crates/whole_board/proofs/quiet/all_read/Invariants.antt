-- `all_read` meets its contract. The loop's invariant: the first p sites are down or have read it all.
-- Assumes nothing.
use Prim.Native.Nat.{◌-◌, ◌≤◌}
use mathlib.Core.Path.{◌≡◌}
use mathlib.Core.Bool.{true}
use Rattle.sets.specs.Below.{all_below}
use Rattle.machine.specs.QuietParts.{has_read}
use Rattle.whole_board.proofs.quiet.all_read.Given as goal

abbrev pub invariant-loop-p : goal.invariant-loop-p
invariant-loop-p l = (l.p ≤ l.n) × (all_below (has_read l.down l.counts) l.p ≡ true)
