-- A row of numbers stored part by part: what stands in it then.
-- In order: sets_more, sets_whole; Done, with first, next and next_one: the parts stored so far; each_more, each_long; stored_none, stored_more, stored_end: the
-- turns of a loop; stored_each: the numbers of an array's elements, each at its place. Rests on Image and Stored. Assumes nothing.
use Prim.Native.Nat.{ℕ, zero, suc, ◌+◌, ◌*◌, ◌<◌, ◌≤◌}
use mathlib.Core.Path.{◌≡◌, refl, sym, ap, ap₂, ◌∙◌}
use mathlib.Core.List.{List, [], ◌∷◌, ◌++◌, append_assoc, append-nil}
use native.Mathlib.Omega.{arith}
use native.Mathlib.Nat.{zero-mul, suc-mul}
use native.Mathlib.Numerals.{add-one}
use lib.ListN.{length, get_or, set, take, length-append, drop_of_length-le}
use lib.Seq.{sets, sets-eq, take-suc, take_all}
use Rattle.layout.specs.Laying.{up_to}
use Rattle.layout.proofs.Grid.{up_none, up_more, up_end}
use Rattle.image.specs.Image.{each}
use Rattle.image.specs.Stored.{stored}

-- ---- parts stored one after another

-- a part stored behind a part
pub sets_more : (vs ws l : List ℕ) (i k : ℕ) → i + length vs ≡ k → sets (sets l i vs) k ws ≡ sets l i (vs ++ ws)
sets_more [] ws l i k e = let h : k ≡ i = omega arith in ap (λ (j : ℕ). sets l j ws) h
sets_more (v ∷ vs) ws l i k e = sets_more vs ws (set l i v) (suc i) k (omega arith)

-- a part that is all of the row
pub sets_whole : (vs l : List ℕ) → length vs ≡ length l → sets l 0 vs ≡ vs
sets_whole vs l e =
    let n : 0 + length vs ≡ length vs = omega arith in
    let all : length l ≤ 0 + length vs = omega arith in
    sets-eq vs l 0 (omega arith) ∙ ap (λ (r : List ℕ). vs ++ r) (drop_of_length-le l all) ∙ append-nil vs

-- from place i on, up to place k, the numbers vs are stored
pub record Done (l : List ℕ) (i : ℕ) (vs : List ℕ) (k : ℕ) (r : List ℕ) : Type 0 where
  pub is : r ≡ sets l i vs
  pub to : i + length vs ≡ k

module _ {l : List ℕ} {i : ℕ} where
  pub first : (ws : List ℕ) (k : ℕ) {r : List ℕ} → r ≡ sets l i ws → i + length ws ≡ k → Done l i ws k r
  first ws k e h = record { is = e; to = h }

  pub next : {vs : List ℕ} {k : ℕ} {r : List ℕ} → Done l i vs k r → (ws : List ℕ) (m : ℕ) {s : List ℕ} → s ≡ sets r k ws → k + length ws ≡ m → Done l i (vs ++ ws) m s
  next {vs} {k} {r} d ws m e h =
      record { is = e ∙ ap (λ (t : List ℕ). sets t k ws) d.is ∙ sets_more vs ws l i k d.to; to = omega (arith, d.to, length-append vs ws) }

  -- the first number of a part, stored by itself
  pub next_one :
      {vs : List ℕ} {k : ℕ} {r : List ℕ} → Done l i vs k r → (w : ℕ) (ws : List ℕ) (m : ℕ) {s : List ℕ} → s ≡ sets (set r k w) (k + 1) ws → k + length (w ∷ ws) ≡ m
      → Done l i (vs ++ w ∷ ws) m s
  next_one {vs} {k} {r} d w ws m e h = next d (w ∷ ws) m (e ∙ ap (λ (j : ℕ). sets (set r k w) j ws) (add-one k)) h

-- ---- the numbers of an array's elements

module _ {A : Type 0} (f : A → List ℕ) where
  each_append : (xs ys : List A) → each f (xs ++ ys) ≡ each f xs ++ each f ys
  unfolding each
  each_append [] ys = refl
  each_append (x ∷ xs) ys = ap (λ (r : List ℕ). f x ++ r) (each_append xs ys) ∙ sym (append_assoc (f x) (each f xs) (each f ys))

  each_one : (x : A) → each f (x ∷ []) ≡ f x
  unfolding each
  each_one x = append-nil (f x)

  each_more : (xs : List A) (d : A) (k : ℕ) → k < length xs → each f (take (suc k) xs) ≡ each f (take k xs) ++ f (get_or xs k d)
  each_more xs d k h =
      ap (each f) (take-suc xs k d h) ∙ each_append (take k xs) (get_or xs k d ∷ [])
      ∙ ap (λ (r : List ℕ). each f (take k xs) ++ r) (each_one (get_or xs k d))

  module _ (at size : ℕ) (xs : List A) (d : A) where
    -- the turns of a loop
    pub stored_none : (l : List ℕ) → l ≡ stored f at size xs d l 0
    unfolding stored
    stored_none l = up_none _ l

    pub stored_more :
        (l b r : List ℕ) (n : ℕ) → b ≡ stored f at size xs d l n → r ≡ sets b (at + n * size) (f (get_or xs n d)) → r ≡ stored f at size xs d l (n + 1)
    unfolding stored
    stored_more l b r n e s = up_more _ l b r n e s

    pub stored_end : (l b : List ℕ) (n k : ℕ) → b ≡ stored f at size xs d l n → n ≤ k → k ≤ n → b ≡ stored f at size xs d l k
    unfolding stored
    stored_end l b n k e h u = up_end _ l b n k e h u

    module _ (long : (k : ℕ) → k < length xs → length (f (get_or xs k d)) ≡ size) where
      each_long : (k : ℕ) → k ≤ length xs → length (each f (take k xs)) ≡ k * size
      unfolding each
      each_long zero h = sym (zero-mul size)
      each_long (suc k) h =
          ap length (each_more xs d k (omega arith)) ∙ length-append (each f (take k xs)) (f (get_or xs k d))
          ∙ ap₂ (λ (x y : ℕ). x + y) (each_long k (omega arith)) (long k (omega arith)) ∙ sym (suc-mul k size)

      stored_part : (l : List ℕ) (k : ℕ) → k ≤ length xs → stored f at size xs d l k ≡ sets l at (each f (take k xs))
      unfolding stored up_to each
      stored_part l zero h = refl
      stored_part l (suc k) h =
          ap (λ (r : List ℕ). sets r (at + k * size) (f (get_or xs k d))) (stored_part l k (omega arith))
          ∙ sets_more (each f (take k xs)) (f (get_or xs k d)) l at (at + k * size) (ap (λ (n : ℕ). at + n) (each_long k (omega arith)))
          ∙ ap (sets l at) (sym (each_more xs d k (omega arith)))

      pub stored_each : (l : List ℕ) (n : ℕ) → length xs ≡ n → stored f at size xs d l n ≡ sets l at (each f xs)
      stored_each l n e = stored_part l n (omega arith) ∙ ap (λ (ys : List A). sets l at (each f ys)) (take_all n xs (omega arith))

      pub length_each : (n : ℕ) → length xs ≡ n → length (each f xs) ≡ n * size
      length_each n e = ap (λ (ys : List A). length (each f ys)) (sym (take_all n xs (omega arith))) ∙ each_long n (omega arith)
