-- Lists made of a function's values: their length and elements, when a list is one, and the change of one or two elements.
-- Rests on Books. Assumes nothing.
use mathlib.Core.Path.{◌≡◌, refl, sym, ◌∙◌}
use mathlib.Core.Bool.{cond}
use mathlib.Core.List.{List, [], ◌∷◌}
use Prim.Native.Nat.{ℕ, zero, suc, ◌<◌}
use native.Mathlib.Decide.{ℕ_discrete}
use native.Mathlib.Omega.{arith}
use lib.Dec.{eqb}
use lib.ListN.{length, get_or, set, length-append, length-set, get_or-append}
use lib.Seq.{ext_get_or, get_or_at, get_or-set_same, get_or-set_other}
use borrow.Author.Tests.{eq-eqb, ne_eqb}
use Rattle.books.specs.Books.{tabulate}

module _ {A : Type 0} where
  pub length_tabulate : (n : ℕ) (f : ℕ → A) → length (tabulate n f) ≡ n
  unfolding tabulate
  length_tabulate zero f = refl
  length_tabulate (suc n) f = omega (arith, length-append (tabulate n f) (f n ∷ []), length_tabulate n f)

  pub get_d_tabulate : (n : ℕ) (f : ℕ → A) (d : A) (k : ℕ) → k < n → get_or (tabulate n f) k d ≡ f k
  unfolding tabulate
  get_d_tabulate zero f d k h = absurd (omega arith)
  get_d_tabulate (suc n) f d k h = elim (ℕ_discrete k n) [
    | yes e ↦ rw e (get_or_at (tabulate n f) (f n) [] d n (length_tabulate n f))
    | no ne ↦
        let l : k < n = omega arith in
        let b : k < length (tabulate n f) = omega (arith, length_tabulate n f) in
        get_or-append (tabulate n f) (f n ∷ []) d k b ∙ get_d_tabulate n f d k l
  ]

  -- a list with the function's values is its table
  pub is_tabulate : (n : ℕ) (f : ℕ → A) (d : A) (l : List A) → length l ≡ n → ((k : ℕ) → k < n → get_or l k d ≡ f k) → l ≡ tabulate n f
  is_tabulate n f d l e h =
      ext_get_or d l (tabulate n f) (e ∙ sym (length_tabulate n f))
      (λ k b. let c : k < n = omega arith in h k c ∙ sym (get_d_tabulate n f d k c))

  -- one element changed
  pub get_d_changed : (n : ℕ) (f : ℕ → A) (d : A) (a : ℕ) (v : A) (k : ℕ) → k < n → get_or (set (tabulate n f) a v) k d ≡ cond (eqb k a) v (f k)
  get_d_changed n f d a v k h = elim (ℕ_discrete k a) [
    | yes e ↦
        let b : a < length (tabulate n f) = omega (arith, length_tabulate n f) in
        rw (eq-eqb k a e, e) (get_or-set_same (tabulate n f) a v d b)
    | no ne ↦ rw (ne_eqb k a ne) (get_or-set_other (tabulate n f) a k v d ne ∙ get_d_tabulate n f d k h)
  ]

  -- elements a and b take the values of g, and those of f and g are equal elsewhere
  pub changed_both : (n : ℕ) (f g : ℕ → A) (d : A) (a b : ℕ) → b < n → ((k : ℕ) → k < n → (k ≡ a → ⊥) → (k ≡ b → ⊥) → f k ≡ g k)
      → set (set (tabulate n f) a (g a)) b (g b) ≡ tabulate n g
  changed_both n f g d a b hb same = is_tabulate n g d (set (set (tabulate n f) a (g a)) b (g b)) size at
    where
      size : length (set (set (tabulate n f) a (g a)) b (g b)) ≡ n
      size = length-set (set (tabulate n f) a (g a)) b (g b) ∙ length-set (tabulate n f) a (g a) ∙ length_tabulate n f

      at : (k : ℕ) → k < n → get_or (set (set (tabulate n f) a (g a)) b (g b)) k d ≡ g k
      at k h = elim (ℕ_discrete k b) [
        | yes e ↦
            let l : b < length (set (tabulate n f) a (g a)) = omega (arith, length-set (tabulate n f) a (g a), length_tabulate n f) in
            rw e (get_or-set_same (set (tabulate n f) a (g a)) b (g b) d l)
        | no nb ↦
            get_or-set_other (set (tabulate n f) a (g a)) b k (g b) d nb
            ∙ elim (ℕ_discrete k a) [
              | yes e ↦ get_d_changed n f d a (g a) k h ∙ rw (eq-eqb k a e, e)
              | no na ↦ get_d_changed n f d a (g a) k h ∙ rw (ne_eqb k a na) (same k h na nb)
            ]
      ]
