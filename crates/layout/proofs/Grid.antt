-- Lists of one length, of kinds k < kinds and numbers p < count, stored in an array number by number, each at its place: what stands there then.
-- up_none, up_more, up_end: the turns of a loop; up_single; up_keeps, up_shows: what steps one after another keep and show; grid_long, grid_keeps, grid_shows. Rests on arrays' Slots. Assumes nothing.
use Prim.Native.Nat.{ℕ, zero, suc, ◌+◌, ◌<◌, ◌≤◌}
use mathlib.Core.Path.{◌≡◌, refl, ap, ◌∙◌}
use mathlib.Core.Logic.{◌⊎◌, inl, inr, ◌≢◌}
use mathlib.Core.List.{List}
use native.Mathlib.Omega.{arith}
use native.Mathlib.Numerals.{add-one}
use native.Mathlib.Decide.{dec_lt, ℕ_discrete}
use lib.ListN.{length, get_or}
use lib.Seq.{sets, length-sets}
use Rattle.flight.specs.Flights.{words_from}
use Rattle.arrays.proofs.Slots.{part_ext, get_sets_other, part_sets}
use Rattle.layout.specs.Laying.{up_to}

-- ---- steps one after another

module _ {A : Type 0} (f : ℕ → A → A) where
  -- the turns of a loop
  pub up_none : (a : A) → a ≡ up_to f a 0
  unfolding up_to
  up_none a = refl

  pub up_more : (a b r : A) (n : ℕ) → b ≡ up_to f a n → r ≡ f n b → r ≡ up_to f a (n + 1)
  unfolding up_to
  up_more a b r n e s = rw add-one (s ∙ ap (f n) e)

  pub up_end : (a b : A) (n k : ℕ) → b ≡ up_to f a n → n ≤ k → k ≤ n → b ≡ up_to f a k
  up_end a b n k e h l = let same : n ≡ k = omega arith in e ∙ ap (up_to f a) same

  -- steps of one turn each
  pub up_single : (a : A) (n : ℕ) → up_to (λ p l. up_to (λ k r. f p r) l 1) a n ≡ up_to f a n
  unfolding up_to
  up_single a zero = refl
  up_single a (suc n) = ap (f n) (up_single a n)

  pub up_keeps : (P : A → Type 0) (n : ℕ) → ((k : ℕ) (a : A) → k < n → P a → P (f k a)) → (a : A) → P a → P (up_to f a n)
  unfolding up_to
  up_keeps P zero step a h = h
  up_keeps P (suc n) step a h = step n (up_to f a n) (omega arith) (up_keeps P n (λ k b l. step k b (omega arith)) a h)

  -- what step k shows, of that which all steps keep, stays in the other steps
  pub up_shows :
      (L : A → Type 0) (Q : ℕ → A → Type 0) (n : ℕ) → ((k : ℕ) (a : A) → k < n → L a → L (f k a)) → ((k : ℕ) (a : A) → k < n → L a → Q k (f k a))
      → ((j k : ℕ) (a : A) → j < n → k < n → j ≢ k → Q j a → Q j (f k a)) → (a : A) → L a → (j : ℕ) → j < n → Q j (up_to f a n)
  unfolding up_to
  up_shows L Q zero keep own other a h j b = absurd (omega arith)
  up_shows L Q (suc n) keep own other a h j b = elim (ℕ_discrete j n) [
    | yes e ↦ rw e (own n (up_to f a n) (omega arith) (up_keeps L n (λ k d l. keep k d (omega arith)) a h))
    | no e ↦
        let c : j < n = omega arith in
        other j n (up_to f a n) b (omega arith) e
        (up_shows L Q n (λ k d l. keep k d (omega arith)) (λ k d l. own k d (omega arith)) (λ i k d u v. other i k d (omega arith) (omega arith)) a h j c)
  ]

-- ---- one list stored

-- a place outside
pub sets_other : (vs l : List ℕ) (i k : ℕ) → (i ≤ k → k < i + length vs → ⊥) → get_or (sets l i vs) k 0 ≡ get_or l k 0
sets_other vs l i k out = get_sets_other vs l i k (side (dec_lt k i))
  where
    side : Dec (k < i) → (k < i) ⊎ (i + length vs ≤ k)
    side (yes h) = inl h
    side (no h) = inr (after (dec_lt k (i + length vs)))
      where
        after : Dec (k < i + length vs) → i + length vs ≤ k
        after (yes b) = absurd (out (omega arith) b)
        after (no b) = omega arith

pub part_stored : (vs l : List ℕ) (i n : ℕ) → length vs ≡ n → i + n ≤ length l → words_from (sets l i vs) i n ≡ vs
part_stored vs l i n e h = rw (← e) (part_sets vs l i (omega arith))

-- ---- all of them

module _ (size kinds count : ℕ) (at : ℕ → ℕ → ℕ) (value : ℕ → ℕ → List ℕ) where
  abbrev pub one : ℕ → ℕ → List ℕ → List ℕ
  one p k l = sets l (at k p) (value k p)

  abbrev pub some : ℕ → List ℕ → List ℕ
  some p l = up_to (one p) l kinds

  abbrev pub grid : List ℕ → List ℕ
  grid l = up_to some l count

  some_long : (p : ℕ) (l : List ℕ) → length (some p l) ≡ length l
  some_long p l = up_keeps (one p) (λ r. length r ≡ length l) kinds (λ k r h e. length-sets r (at k p) (value k p) ∙ e) l refl

  pub grid_long : (l : List ℕ) → length (grid l) ≡ length l
  grid_long l = up_keeps some (λ r. length r ≡ length l) count (λ p r h e. some_long p r ∙ e) l refl

  module _ (long : (k p : ℕ) → k < kinds → p < count → length (value k p) ≡ size) where
    some_keeps :
        (p : ℕ) (l : List ℕ) (i : ℕ) → p < count → ((k : ℕ) → k < kinds → at k p ≤ i → i < at k p + size → ⊥) → get_or (some p l) i 0 ≡ get_or l i 0
    some_keeps p l i hp out =
        up_keeps (one p) (λ r. get_or r i 0 ≡ get_or l i 0) kinds
        (λ k r h e. sets_other (value k p) r (at k p) i (λ b c. out k h b (omega (arith, long k p h hp))) ∙ e) l refl

    pub grid_keeps :
        (l : List ℕ) (i : ℕ) → ((k p : ℕ) → k < kinds → p < count → at k p ≤ i → i < at k p + size → ⊥) → get_or (grid l) i 0 ≡ get_or l i 0
    grid_keeps l i out =
        up_keeps some (λ r. get_or r i 0 ≡ get_or l i 0) count (λ p r h e. some_keeps p r i h (λ k b. out k p b h) ∙ e) l refl

    module _ (all : ℕ) (fits : (k p : ℕ) → k < kinds → p < count → at k p + size ≤ all)
        (apart : (k p j q i : ℕ) → k < kinds → p < count → j < kinds → q < count → at k p ≤ i → i < at k p + size → at j q ≤ i → i < at j q + size → (k ≡ j) × (p ≡ q)) where
      some_shows : (p : ℕ) (l : List ℕ) → p < count → length l ≡ all → (k : ℕ) → k < kinds → words_from (some p l) (at k p) size ≡ value k p
      some_shows p l hp e =
          up_shows (one p) (λ r. length r ≡ all) (λ k r. words_from r (at k p) size ≡ value k p) kinds
          (λ k r h d. length-sets r (at k p) (value k p) ∙ d)
          (λ k r h d. part_stored (value k p) r (at k p) size (long k p h hp) (omega (arith, fits k p h hp)))
          (λ j k r hj hk n d. part_ext (one p k r) r (at j p) size (λ i b c.
          sets_other (value k p) r (at k p) i (λ u v. n (apart j p k p i hj hp hk hp b c u (omega (arith, long k p hk hp))).0)) ∙ d)
          l e

      pub grid_shows : (l : List ℕ) → length l ≡ all → (k p : ℕ) → k < kinds → p < count → words_from (grid l) (at k p) size ≡ value k p
      grid_shows l e k p hk hp =
          up_shows some (λ r. length r ≡ all) (λ q r. (j : ℕ) → j < kinds → words_from r (at j q) size ≡ value j q) count
          (λ q r h d. some_long q r ∙ d)
          (λ q r h d. some_shows q r h d)
          (λ q s r hq hs n d j hj. part_ext (some s r) r (at j q) size (λ i b c.
          some_keeps s r i hs (λ o ho u v. n (apart j q o s i hj hq ho hs b c u v).1)) ∙ d j hj)
          l e p hp k hk
