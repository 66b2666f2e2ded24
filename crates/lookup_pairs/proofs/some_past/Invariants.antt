-- `some_past` meets its contract: of the first i pairs none has the limit or more.
-- Assumes nothing.
use Prim.Native.Nat.{ℕ, ◌+◌, ◌*◌, ◌≤◌, ◌-◌}
use mathlib.Core.Path.{◌≡◌}
use mathlib.Core.Bool.{Bool, false}
use mathlib.Core.List.{List}
use lib.Dec.{leb}
use lib.ListN.{get_or}
use Rattle.sets.specs.Below.{any_below}
use Rattle.lookup_pairs.proofs.some_past.Given as goal

abbrev pub past : List ℕ → ℕ → ℕ → ℕ → Bool
past pairs place limit i = leb limit (get_or pairs (2 * i + place) 0)

abbrev pub invariant-loop-i : goal.invariant-loop-i
invariant-loop-i l = (l.i ≤ l.count) × (any_below (past l.pairs l.place l.limit) l.i ≡ false)
