-- What the loops over the words of a carried set have done after k words: store_step, store_end for a set stored; read_step, read_end for a set read.
-- Rests on Flights. Assumes nothing.
use Prim.Native.Nat.{ℕ, zero, suc, ◌+◌, ◌<◌, ◌≤◌}
use mathlib.Core.Path.{◌≡◌, sym, ap, ◌∙◌}
use mathlib.Core.List.{List, [], ◌∷◌, ◌++◌, append_assoc, append-nil}
use native.Mathlib.Omega.{arith}
use native.Mathlib.Numerals.{add-one}
use lib.ListN.{length, get_or, set, take, drop, drop_of_length-le}
use lib.Seq.{sets, take-suc, take_all, length-take-le, drop-cons, set_at}
use Rattle.flight.specs.Flights.{words_from}
use Rattle.flight.proofs.CarriedLaws.{length_words_from}

-- ---- stores

sets_last : (vs l : List ℕ) (i v : ℕ) → sets l i (vs ++ v ∷ []) ≡ set (sets l i vs) (i + length vs) v
sets_last [] l i v = let e : i + 0 ≡ i = omega arith in rw e
sets_last (u ∷ vs) l i v = let e : i + suc (length vs) ≡ suc i + length vs = omega arith in rw e (sets_last vs (set l i u) (suc i) v)

module _ (l vs : List ℕ) (i k : ℕ) where
  pub store_step : (r : List ℕ) → k < length vs → r ≡ sets l i (take k vs) → set r (i + k) (get_or vs k 0) ≡ sets l i (take (k + 1) vs)
  store_step r h e =
      let n : length (take k vs) ≡ k = length-take-le k vs (omega arith) in
      ap (λ (t : List ℕ). set t (i + k) (get_or vs k 0)) e
      ∙ sym (rw (add-one, take-suc vs k 0 h) (sets_last (take k vs) l i (get_or vs k 0) ∙ rw n))

  pub store_end : length vs ≤ k → sets l i (take k vs) ≡ sets l i vs
  store_end h = ap (sets l i) (take_all k vs h)

-- ---- reads

words_last : (l : List ℕ) (i n : ℕ) → words_from l i (suc n) ≡ words_from l i n ++ (get_or l (i + n) 0 ∷ [])
unfolding words_from
words_last l i zero = let e : i + 0 ≡ i = omega arith in rw e
words_last l i (suc n) = let e : i + suc n ≡ suc i + n = omega arith in rw e (ap (λ (t : List ℕ). get_or l i 0 ∷ t) (words_last l (suc i) n))

module _ (l zs : List ℕ) (i k : ℕ) where
  pub read_step :
      (r : List ℕ) → k < length zs → r ≡ words_from l i k ++ drop k zs → set r k (get_or l (i + k) 0) ≡ words_from l i (k + 1) ++ drop (k + 1) zs
  read_step r h e =
      ap (λ (t : List ℕ). set t k (get_or l (i + k) 0)) (e ∙ ap (λ (t : List ℕ). words_from l i k ++ t) (drop-cons zs k 0 h))
      ∙ set_at (words_from l i k) (get_or zs k 0) (drop (suc k) zs) (get_or l (i + k) 0) k (length_words_from l i k)
      ∙ sym (rw (add-one, words_last l i k, append_assoc))

  pub read_end : length zs ≤ k → words_from l i k ++ drop k zs ≡ words_from l i k
  read_end h = rw (drop_of_length-le zs h) (append-nil (words_from l i k))
