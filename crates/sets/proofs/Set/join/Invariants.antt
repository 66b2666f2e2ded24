-- `join` meets its contract. The loop's invariant: the first i words are combined, the rest are as they were.
-- Assumes nothing.
use mathlib.Core.Path.{◌≡◌}
use lib.Bits.{bit_or}
use Rattle.sets.proofs.Loops.{first_words}
use Rattle.sets.proofs.Set.join.Given as goal

abbrev pub invariant-loop-i : goal.invariant-loop-i
invariant-loop-i l = l.w-items ≡ first_words bit_or l.fn.self.words l.t.words l.i
