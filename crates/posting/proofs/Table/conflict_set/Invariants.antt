-- `conflict_set` meets its contract. The loop's invariant: the set is that of the offered numbers below x that conflict with m.
-- Assumes nothing.
use Prim.Native.Nat.{ℕ}
use mathlib.Core.Path.{◌≡◌}
use mathlib.Core.Bool.{Bool, ◌&&◌}
use Rattle.sets.specs.Words.{collect}
use Rattle.sets.specs.Sets.{words, of_words}
use Rattle.posting.specs.declared.Table.{Table}
use Rattle.posting.specs.Conflicts.{offered, conflict}
use Rattle.posting.proofs.Table.conflict_set.Given as goal

-- what is collected
abbrev pub others : ℕ → Table → ℕ → ℕ → Bool
others matrix t m x = offered t x && conflict matrix t m x

abbrev pub invariant-loop-x : goal.invariant-loop-x
invariant-loop-x l = l.s ≡ of_words (collect words (others l.matrix l.fn.self l.m) l.x)
