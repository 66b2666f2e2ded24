-- `carried_set` meets its contract. The loop's invariant: the first k words are read, the others are 0.
-- Assumes nothing.
use Prim.Native.Nat.{◌≤◌, ◌*◌, ◌-◌}
use mathlib.Core.Path.{◌≡◌}
use mathlib.Core.List.{◌++◌}
use lib.ListN.{drop}
use Rattle.sets.specs.Sets.{words, empty_set}
use Rattle.flight.specs.Flights.{words_from}
use Rattle.flight.proofs.carried_set.Given as goal

abbrev pub invariant-loop-k : goal.invariant-loop-k
invariant-loop-k l = (l.k ≤ words) × (l.load.words ≡ words_from l.carried (words * l.i) l.k ++ drop l.k empty_set.words)
