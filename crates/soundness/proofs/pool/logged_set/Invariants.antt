-- `logged_set` meets its contract. The loop's invariant: the set is that of the first i numbers.
-- Assumes nothing.
use Prim.Native.Nat.{◌≤◌}
use mathlib.Core.Path.{◌≡◌}
use Rattle.soundness.proofs.Turns.{first_of}
use Rattle.soundness.proofs.pool.logged_set.Given as goal

abbrev pub invariant-loop-i : goal.invariant-loop-i
invariant-loop-i l = (l.i ≤ l.fn.log.count) × (l.logged ≡ first_of l.fn.log.numbers l.i)
