-- `load` meets its contract.
-- Assumes nothing.
use Prim.Native.Nat.{◌≤◌, ◌*◌, ◌-◌}
use mathlib.Core.Path.{◌≡◌}
use mathlib.Core.List.{◌++◌}
use lib.ListN.{drop}
use Rattle.sets.specs.Sets.{words, empty_set}
use Rattle.flight.specs.Flights.{words_from}
use Rattle.arrays.proofs.load.Given as goal

abbrev pub invariant-loop-k : goal.invariant-loop-k
invariant-loop-k l = (l.k ≤ words) × (l.s.words ≡ words_from l.words (words * l.slot) l.k ++ drop l.k empty_set.words)
