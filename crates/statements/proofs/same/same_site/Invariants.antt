-- `same_site` meets its contract. The loop's invariant: the first k accounts are the same.
-- Assumes nothing.
use mathlib.Core.Path.{◌≡◌}
use mathlib.Core.List.{List}
use lib.IntN.{ℤ}
use Rattle.posting.specs.Kinds.{accounts}
use Rattle.statements.specs.Table.{account_at, same_account}
use Prim.Native.Nat.{ℕ, ◌≤◌, ◌-◌}
use mathlib.Core.Bool.{Bool, true}
use Rattle.sets.specs.Below.{all_below}
use Rattle.statements.proofs.same.same_site.Given as goal

abbrev pub passes : List ℤ → ℕ → ℕ → ℕ → Bool
passes l p q k = same_account (account_at l p k) (account_at l q k)

abbrev pub invariant-loop-k : goal.invariant-loop-k
invariant-loop-k l = (l.k ≤ accounts) × (all_below (passes l.figures l.p l.q) l.k ≡ true)
