-- `named_sites` meets its contract: after i pairs the mask has the sites that they name.
-- Assumes nothing.
use Prim.Native.Nat.{◌≤◌, ◌-◌}
use mathlib.Core.Path.{◌≡◌}
use Rattle.lookup_pairs.specs.Gathered.{named_to}
use Rattle.lookup_pairs.proofs.named_sites.Given as goal

abbrev pub invariant-loop-i : goal.invariant-loop-i
invariant-loop-i l = (l.i ≤ l.count) × (l.named ≡ named_to l.i l.pairs)
