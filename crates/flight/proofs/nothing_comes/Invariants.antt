-- `nothing_comes` meets its contract. The loop's invariant: the answer is that nothing was joined so far, and nothing comes from k on.
-- Assumes nothing.
use Prim.Native.Nat.{◌≤◌, ◌-◌}
use mathlib.Core.Path.{◌≡◌}
use mathlib.Core.Bool.{◌&&◌}
use lib.Dec.{eqb}
use lib.ListN.{take, drop}
use Rattle.flight.specs.Flights.{cells, nothing_comes}
use Rattle.flight.proofs.nothing_comes.Given as goal

abbrev pub invariant-loop-k : goal.invariant-loop-k
invariant-loop-k l = (l.k ≤ cells) × (nothing_comes (take cells l.masks) l.up ≡ (eqb l.any 0 && nothing_comes (drop l.k (take cells l.masks)) l.up))
