-- A list filled with a function's values from its front: what a loop over an array has done after k steps.
-- filled_begin, filled_step, filled_all. Rests on books' tabulate. Assumes nothing.
use Prim.Native.Nat.{ℕ, ◌+◌, ◌<◌, ◌≤◌}
use mathlib.Core.Path.{◌≡◌, ◌∙◌}
use mathlib.Core.List.{List}
use native.Mathlib.Omega.{arith}
use native.Mathlib.Decide.{ℕ_discrete}
use lib.ListN.{length, get_or, set, replicate, length-set, length-replicate}
use lib.Seq.{get_or-set_same, get_or-set_other}
use Rattle.books.specs.Books.{tabulate}
use Rattle.books.proofs.Lists.{is_tabulate}

pub record Filled {A : Type 0} (n : ℕ) (f : ℕ → A) (d : A) (l : List A) (k : ℕ) : Type 0 where
  pub long : length l ≡ n
  pub values : (q : ℕ) → q < k → get_or l q d ≡ f q

module _ {A : Type 0} (n : ℕ) (f : ℕ → A) (d : A) where
  pub filled_begin : (v : A) → Filled n f d (replicate n v) 0
  filled_begin v = record { long = length-replicate n v; values = λ q h. absurd (omega arith) }

  pub filled_step : (l : List A) (k : ℕ) (v : A) → k < n → v ≡ f k → Filled n f d l k → Filled n f d (set l k v) (k + 1)
  filled_step l k v h e x =
      record {
        long = length-set l k v ∙ x.long;
        values = λ q b. elim (ℕ_discrete q k) [
          | yes s ↦ rw s (get_or-set_same l k v d (omega (arith, x.long)) ∙ e)
          | no s ↦ get_or-set_other l k q v d s ∙ x.values q (omega arith)
        ];
      }

  pub filled_all : (l : List A) (k : ℕ) → n ≤ k → Filled n f d l k → l ≡ tabulate n f
  filled_all l k h x = is_tabulate n f d l x.long (λ q b. x.values q (omega arith))
