-- What the loops over the words have done after i words. wordwise_step, wordwise_end: the first i words are combined, the rest as they were.
-- insert_none, insert_step, insert_end: m is in if its word is among the first i. Rests on Words.
-- Assumes nothing.
use Prim.Native.Nat.{ℕ, suc, ◌+◌, ◌/◌, ◌%◌, ◌^◌, ◌<◌}
use mathlib.Core.Path.{◌≡◌, refl, sym, ap, ap₂, ◌∙◌}
use mathlib.Core.Logic.{◌≢◌}
use mathlib.Core.Bool.{cond}
use mathlib.Core.List.{List, ◌∷◌, ◌++◌, append_assoc, append-nil}
use native.Mathlib.Omega.{arith}
use native.Mathlib.Decide.{dec_lt, ℕ_discrete}
use native.Mathlib.Numerals.{add-one}
use lib.Dec.{eqb, ltb}
use lib.ListN.{length, set, take, drop}
use lib.Bits.{bit_or}
use lib.Seq.{drop-cons, take-suc, set_at, get_or_at, length-take-le, take_all, drop-length, set-get_or}
use borrow.Author.Tests.{eq-eqb, ne_eqb, lt-ltb, le-ltb}
use Rattle.sets.specs.Words.{word, insert, wordwise}
use Rattle.sets.proofs.WordLaws.{insert_past, word_wordwise, length_wordwise}

-- the first i words combined
abbrev pub first_words : (ℕ → ℕ → ℕ) → List ℕ → List ℕ → ℕ → List ℕ
first_words f ws vs i = take i (wordwise f ws vs) ++ drop i ws

module _ (f : ℕ → ℕ → ℕ) (z : f 0 0 ≡ 0) (ws vs : List ℕ) (same : length vs ≡ length ws) where
  pub wordwise_step :
      (us : List ℕ) (i : ℕ) → i < length ws → us ≡ first_words f ws vs i → set us i (f (word us i) (word vs i)) ≡ first_words f ws vs (i + 1)
  wordwise_step us i h e =
      let done = take i (wordwise f ws vs) in
      let n : length (wordwise f ws vs) ≡ length ws = omega (arith, length_wordwise f ws vs) in
      let p : length done ≡ i = length-take-le i (wordwise f ws vs) (omega arith) in
      let split : us ≡ done ++ word ws i ∷ drop (suc i) ws = e ∙ ap (λ (l : List ℕ). done ++ l) (drop-cons ws i 0 h) in
      let old : word us i ≡ word ws i = ap (λ (l : List ℕ). word l i) split ∙ get_or_at done (word ws i) (drop (suc i) ws) 0 i p in
      ap₂ (λ (l : List ℕ) (w : ℕ). set l i (f w (word vs i))) split old
      ∙ set_at done (word ws i) (drop (suc i) ws) (f (word ws i) (word vs i)) i p
      ∙ rw (add-one, take-suc (wordwise f ws vs) i 0 (omega arith), append_assoc, word_wordwise f z ws vs i)

  pub wordwise_end : (i : ℕ) → i ≡ length ws → first_words f ws vs i ≡ wordwise f ws vs
  wordwise_end i e =
      rw (e, drop-length ws, append-nil) (take_all (length ws) (wordwise f ws vs) (omega (arith, length_wordwise f ws vs)))

module _ (ws : List ℕ) (m : ℕ) where
  -- m is in, if its word is among the first i
  abbrev pub first_with : ℕ → List ℕ
  first_with i = cond (ltb (m / 64) i) (insert ws m) ws

  pub insert_none : ws ≡ first_with 0
  insert_none = rw (le-ltb (m / 64) 0 (omega arith)) refl

  pub insert_step :
      (us : List ℕ) (i v : ℕ) → us ≡ first_with i → v ≡ cond (eqb i (m / 64)) (bit_or (word us i) (2 ^ (m % 64))) (word us i)
      → set us i v ≡ first_with (i + 1)
  unfolding insert
  insert_step us i v e new = elim (ℕ_discrete i (m / 64)) [
    | yes at ↦
        let old : us ≡ ws = e ∙ rw (le-ltb (m / 64) i (omega arith)) refl in
        rw (new, eq-eqb i (m / 64) at, old, at, lt-ltb (m / 64) (m / 64 + 1) (omega arith)) refl
    | no d ↦ rw (new, ne_eqb i (m / 64) d, set-get_or us i 0, below d) e
  ]
    where
      below : i ≢ m / 64 → ltb (m / 64) (i + 1) ≡ ltb (m / 64) i
      below d = elim (dec_lt (m / 64) i) [
        | yes b ↦ lt-ltb (m / 64) (i + 1) (omega arith) ∙ sym (lt-ltb (m / 64) i b)
        | no b ↦ le-ltb (m / 64) (i + 1) (omega arith) ∙ sym (le-ltb (m / 64) i (omega arith))
      ]

  pub insert_end : (i : ℕ) → i ≡ length ws → first_with i ≡ insert ws m
  insert_end i e = elim (dec_lt (m / 64) i) [
    | yes b ↦ rw (lt-ltb (m / 64) i b) refl
    | no b ↦ rw (le-ltb (m / 64) i (omega arith)) (sym (insert_past ws m (omega arith)))
  ]
