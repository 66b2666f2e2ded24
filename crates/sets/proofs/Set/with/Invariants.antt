-- `with` meets its contract. The loop's invariant: m is in, if its word is among the first i; a number past the capacity has none.
-- Assumes nothing.
use mathlib.Core.Path.{◌≡◌}
use Rattle.sets.proofs.Loops.{first_with}
use Rattle.sets.proofs.Set.with.Given as goal

abbrev pub invariant-loop-i : goal.invariant-loop-i
invariant-loop-i l = l.w-items ≡ first_with l.fn.self.words l.m l.i
