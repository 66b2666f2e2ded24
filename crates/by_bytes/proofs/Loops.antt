-- One turn more of a loop that stores a function's values.
-- Rests on books. Assumes nothing.
use Prim.Native.Nat.{ℕ, ◌+◌, ◌<◌, ◌≤◌}
use mathlib.Core.Path.{◌≡◌, refl, sym, ap, ◌∙◌}
use mathlib.Core.List.{List}
use native.Mathlib.Numerals.{add-one}
use native.Mathlib.Omega.{arith}
use lib.ListN.{length, take, set, replicate, length-replicate, length-set}
use lib.Seq.{take-suc-set, take_all}
use Rattle.books.specs.Books.{tabulate}

-- ---- stores

module _ {A : Type 0} (f : ℕ → A) (k : ℕ) where
  -- of a list of k elements the first n are the function's values
  abbrev pub Stored : ℕ → List A → Type 0
  Stored n l = (length l ≡ k) × (take n l ≡ tabulate n f)

  pub stored_none : (x : A) → Stored 0 (replicate k x)
  unfolding tabulate
  stored_none x = (length-replicate k x, refl)

  pub stored_more : (l : List A) (n : ℕ) (x : A) → n < k → Stored n l → x ≡ f n → Stored (n + 1) (set l n x)
  unfolding tabulate
  stored_more l n x h t e =
      let b : n < length l = omega arith in
      (length-set l n x ∙ t.0, rw (add-one, take-suc-set l n x b, t.1, e))

  pub stored_all : (l : List A) (n : ℕ) → n ≡ k → Stored n l → l ≡ tabulate k f
  stored_all l n e t = let b : length l ≤ n = omega arith in sym (take_all n l b) ∙ t.1 ∙ ap (λ (m : ℕ). tabulate m f) e
