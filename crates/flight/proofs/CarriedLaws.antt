-- Laws of the array of carried sets: which set is carried where once one was stored, a set stored twice, and that the array keeps its shape.
-- Rests on Flights and CellLaws; holds for any number of words. Assumes nothing.
use Prim.Native.Nat.{ℕ, zero, suc, ◌+◌, ◌*◌, ◌^◌, ◌<◌, ◌≤◌}
use mathlib.Core.Path.{◌≡◌, refl, sym, ap, ap₂, ◌∙◌}
use mathlib.Core.Logic.{◌⊎◌, inl, inr, ◌≢◌}
use mathlib.Core.Bool.{true, cond, ◌&&◌}
use mathlib.Core.List.{List, [], ◌∷◌}
use native.Mathlib.Omega.{arith}
use native.Mathlib.Decide.{dec_lt}
use lib.Dec.{eqb, ltb}
use lib.ListN.{length, get_or, set, replicate, length-set}
use lib.Seq.{sets, get_or-set_same, get_or-set_other, set-set, set_comm}
use borrow.Author.Tests.{lt-ltb, le-ltb, eqb-true, eqb-false}
use Rattle.sets.specs.declared.Set.{Set}
use Rattle.sets.proofs.Truth.{test, and_left, and_right}
use Rattle.sets.specs.Words.{Words}
use Rattle.sets.proofs.WordLaws.{empty_shape, set_shape, word_small}
use Rattle.sets.specs.Sets.{words, capacity, of_words, empty_set, Shape}
use Rattle.site.specs.Sites.{sites}
use Rattle.flight.specs.Flights.{pairs, pair_at, words_from, set_in, carrying}
use Rattle.flight.proofs.ArrayLaws.{zero_at}
use Rattle.flight.proofs.CellLaws.{pair_below, pair_same}

-- ---- shape

sets_words : {k : ℕ} (vs l : List ℕ) (i : ℕ) → Words k l → ((j : ℕ) → j < length vs → get_or vs j 0 < 2 ^ 64) → Words k (sets l i vs)
sets_words [] l i s h = s
sets_words (v ∷ vs) l i s h = sets_words vs (set l i v) (suc i) (set_shape l i v s (h 0 (omega arith))) (λ j b. h (suc j) (omega arith))

pub carrying_words :
    (carried : List ℕ) → Words (words * pairs) carried → (m from : ℕ) (load : Set) → Shape load → Words (words * pairs) (carrying carried m from load)
unfolding carrying
carrying_words carried s m from load t = elim (test (ltb (pair_at m from) pairs)) [
  | inl b ↦ rw b (sets_words load.words carried (words * pair_at m from) s (λ j h. t.small j (omega (arith, t.long))))
  | inr b ↦ rw b s
]

-- ---- words stored and read

-- stores from place i on: what stands before and behind them, and among them
get_sets_other : (vs l : List ℕ) (i k : ℕ) → (k < i) ⊎ (i + length vs ≤ k) → get_or (sets l i vs) k 0 ≡ get_or l k 0
get_sets_other [] l i k h = refl
get_sets_other (v ∷ vs) l i k (inl h) =
    get_sets_other vs (set l i v) (suc i) k (inl (omega arith)) ∙ get_or-set_other l i k v 0 (omega arith)
get_sets_other (v ∷ vs) l i k (inr h) =
    get_sets_other vs (set l i v) (suc i) k (inr (omega arith)) ∙ get_or-set_other l i k v 0 (omega arith)

get_sets_in : (vs l : List ℕ) (i j : ℕ) → j < length vs → i + length vs ≤ length l → get_or (sets l i vs) (i + j) 0 ≡ get_or vs j 0
get_sets_in [] l i j h b = absurd (omega arith)
get_sets_in (v ∷ vs) l i zero h b =
    let e : i + 0 ≡ i = omega arith in
    rw e (get_sets_other vs (set l i v) (suc i) i (inl (omega arith)) ∙ get_or-set_same l i v 0 (omega arith))
get_sets_in (v ∷ vs) l i (suc j) h b =
    let e : i + suc j ≡ suc i + j = omega arith in
    rw e (get_sets_in vs (set l i v) (suc i) j (omega arith) (omega (arith, length-set l i v)))

-- the words from place i on are those of another list, if each is
words_from_ext : (l r : List ℕ) (i n : ℕ) → ((k : ℕ) → i ≤ k → k < i + n → get_or l k 0 ≡ get_or r k 0) → words_from l i n ≡ words_from r i n
unfolding words_from
words_from_ext l r i zero h = refl
words_from_ext l r i (suc n) h =
    ap₂ (λ (w : ℕ) (ws : List ℕ). w ∷ ws) (h i (omega arith) (omega arith))
    (words_from_ext l r (suc i) n (λ k u v. h k (omega arith) (omega arith)))

words_from_is : (vs l : List ℕ) (i : ℕ) → ((j : ℕ) → j < length vs → get_or l (i + j) 0 ≡ get_or vs j 0) → words_from l i (length vs) ≡ vs
unfolding words_from
words_from_is [] l i h = refl
words_from_is (v ∷ vs) l i h =
    ap₂ (λ (w : ℕ) (ws : List ℕ). w ∷ ws) (ap (λ (k : ℕ). get_or l k 0) (omega arith) ∙ h 0 (omega arith))
    (words_from_is vs l (suc i) (λ j b. ap (λ (k : ℕ). get_or l k 0) (omega arith) ∙ h (suc j) (omega arith)))

pub word_from : (l : List ℕ) (i n j : ℕ) → j < n → get_or (words_from l i n) j 0 ≡ get_or l (i + j) 0
unfolding words_from
word_from l i zero j h = absurd (omega arith)
word_from l i (suc n) zero h = ap (λ (k : ℕ). get_or l k 0) (omega arith)
word_from l i (suc n) (suc j) h = word_from l (suc i) n j (omega arith) ∙ ap (λ (k : ℕ). get_or l k 0) (omega arith)

pub length_words_from : (l : List ℕ) (i n : ℕ) → length (words_from l i n) ≡ n
unfolding words_from
length_words_from l i zero = refl
length_words_from l i (suc n) = ap suc (length_words_from l (suc i) n)

-- ---- sets

module _ (carried : List ℕ) (long : length carried ≡ words * pairs) where
  -- a set stored: it is carried there, and elsewhere what was
  pub set_carried :
      (m from : ℕ) (load : Set) → m < capacity → from < sites → length load.words ≡ words → (x a : ℕ)
      → set_in (carrying carried m from load) x a ≡ cond (eqb x m && eqb a from) load (set_in carried x a)
  unfolding set_in carrying
  set_carried m from load hm hf size x a = elim (test (eqb x m && eqb a from)) [
    | inl t ↦
        let e : x ≡ m = eqb-true x m (and_left (eqb x m) (eqb a from) t) in
        let g : a ≡ from = eqb-true a from (and_right (eqb x m) (eqb a from) t) in
        rw (t, e, g, here) (ap of_words stored)
    | inr n ↦
        let d : pair_at x a ≢ pair_at m from = eqb-false (pair_at x a) (pair_at m from) (pair_same x a m from hm hf ∙ n) in
        rw (n, here)
        (ap (λ (l : List ℕ). cond (ltb (pair_at x a) pairs) (of_words l) empty_set)
        (words_from_ext (sets carried at ws) carried (words * pair_at x a) words
        (λ k h i. get_sets_other ws carried at k (apart k h i d (dec_lt k at)))))
  ]
    where
      here : ltb (pair_at m from) pairs ≡ true
      here = lt-ltb (pair_at m from) pairs (pair_below m from hm hf)

      at : ℕ
      at = words * pair_at m from

      ws : List ℕ
      ws = load.words

      stored : words_from (sets carried at ws) at words ≡ ws
      stored =
          ap (λ (n : ℕ). words_from (sets carried at ws) at n) (sym size)
          ∙ words_from_is ws (sets carried at ws) at (λ j h. get_sets_in ws carried at j h (omega (arith, pair_below m from hm hf)))

      apart : (k : ℕ) → words * pair_at x a ≤ k → k < words * pair_at x a + words → pair_at x a ≢ pair_at m from → Dec (k < at) → (k < at) ⊎ (at + length ws ≤ k)
      apart k h i d (yes b) = inl b
      apart k h i d (no b) = inr (omega arith)

pub set_shape_in : (carried : List ℕ) → Words (words * pairs) carried → (m from : ℕ) → Shape (set_in carried m from)
unfolding set_in
set_shape_in carried s m from = elim (test (ltb (pair_at m from) pairs)) [
  | inl t ↦
      rw t (record {
        long = length_words_from carried at words;
        small = λ j h. rw (word_from carried at words j h) (word_small carried (at + j) s);
      })
  | inr f ↦ rw f (empty_shape words)
]
  where
    at : ℕ
    at = words * pair_at m from

-- no set stands past the last pair
pub set_past : (carried : List ℕ) (m from : ℕ) → pairs ≤ pair_at m from → set_in carried m from ≡ empty_set
unfolding set_in
set_past carried m from h = rw (le-ltb (pair_at m from) pairs h)

-- where all words are 0
pub zero_set : (n m from : ℕ) → set_in (replicate n 0) m from ≡ empty_set
unfolding set_in words_from
zero_set n m from = elim (test (ltb (pair_at m from) pairs)) [
  | inl t ↦ rw t (ap of_words (zeros (words * pair_at m from) words))
  | inr f ↦ rw f
]
  where
    zeros : (i k : ℕ) → words_from (replicate n 0) i k ≡ replicate k 0
    zeros i zero = refl
    zeros i (suc k) = ap₂ (λ (w : ℕ) (ws : List ℕ). w ∷ ws) (zero_at n i) (zeros (suc i) k)

-- ---- the same set twice

-- a store before the others, made after them
set_before : (vs l : List ℕ) (i j v : ℕ) → i < j → sets (set l i v) j vs ≡ set (sets l j vs) i v
set_before [] l i j v h = refl
set_before (u ∷ vs) l i j v h =
    ap (λ (r : List ℕ). sets r (suc j) vs) (set_comm l i j v u (omega arith)) ∙ set_before vs (set l j u) i (suc j) v (omega arith)

sets_twice : (vs l : List ℕ) (i : ℕ) → sets (sets l i vs) i vs ≡ sets l i vs
sets_twice [] l i = refl
sets_twice (v ∷ vs) l i =
    let rest = sets l (suc i) vs in
    let once : sets (set l i v) (suc i) vs ≡ set rest i v = set_before vs l i (suc i) v (omega arith) in
    ap (λ (r : List ℕ). sets (set r i v) (suc i) vs) once
    ∙ ap (λ (r : List ℕ). sets r (suc i) vs) (set-set rest i v v)
    ∙ set_before vs rest i (suc i) v (omega arith)
    ∙ ap (λ (r : List ℕ). set r i v) (sets_twice vs l (suc i))
    ∙ sym once

pub carrying_twice : (carried : List ℕ) (m from : ℕ) (load : Set) → carrying (carrying carried m from load) m from load ≡ carrying carried m from load
unfolding carrying
carrying_twice carried m from load = elim (test (ltb (pair_at m from) pairs)) [
  | inl t ↦ rw t (sets_twice load.words carried (words * pair_at m from))
  | inr f ↦ rw f
]
