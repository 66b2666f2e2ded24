-- `has_none` meets its contract. The loop's invariant: the first k accounts have no figures.
-- Assumes nothing.
use mathlib.Core.Path.{◌≡◌}
use mathlib.Core.List.{List}
use lib.IntN.{ℤ}
use Rattle.posting.specs.Kinds.{accounts}
use Rattle.statements.specs.Table.{account_at, is_blank}
use Prim.Native.Nat.{ℕ, ◌≤◌, ◌-◌}
use mathlib.Core.Bool.{Bool, true}
use Rattle.sets.specs.Below.{all_below}
use Rattle.statements.proofs.same.has_none.Given as goal

abbrev pub passes : List ℤ → ℕ → ℕ → Bool
passes l p k = is_blank (account_at l p k)

abbrev pub invariant-loop-k : goal.invariant-loop-k
invariant-loop-k l = (l.k ≤ accounts) × (all_below (passes l.figures l.p) l.k ≡ true)
