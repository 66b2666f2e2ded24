-- `offered_set` meets its contract. The loop's invariant: the set is that of the numbers below x that are offered.
-- Assumes nothing.
use mathlib.Core.Path.{◌≡◌}
use Rattle.sets.specs.Words.{collect}
use Rattle.sets.specs.Sets.{words, of_words}
use Rattle.posting.specs.Conflicts.{offered_by}
use Rattle.soundness.proofs.table.offered_set.Given as goal

abbrev pub invariant-loop-x : goal.invariant-loop-x
invariant-loop-x l = l.all ≡ of_words (collect words (offered_by l.count) l.x)
