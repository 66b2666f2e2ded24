-- `column` meets its contract.
-- Assumes nothing.
use Prim.Native.Nat.{◌≤◌, ◌-◌}
use mathlib.Core.Path.{◌≡◌}
use mathlib.Core.List.{◌++◌}
use lib.ListN.{drop, replicate}
use Rattle.sets.specs.Sets.{capacity}
use Rattle.flight.specs.Flights.{words_from}
use Rattle.views.proofs.column.Given as goal

abbrev pub invariant-loop-k : goal.invariant-loop-k
invariant-loop-k l = (l.k ≤ capacity) × (l.a ≡ words_from l.bytes l.at l.k ++ drop l.k (replicate capacity 0))
