-- Laws of the first number below n that passes: as a loop that counts up finds it, and what it is. Which sites have log left, case by case.
-- Rests on Firsts and Truth. Assumes nothing.
use Prim.Native.Nat.{ℕ, zero, suc, ◌+◌, ◌<◌, ◌≤◌}
use mathlib.Core.Path.{◌≡◌, refl, sym, ap, ◌∙◌, subst}
use mathlib.Core.Logic.{inl, inr}
use mathlib.Core.Bool.{Bool, true, false, cond}
use mathlib.Core.List.{List}
use native.Mathlib.Omega.{arith}
use native.Mathlib.Numerals.{add-one}
use native.Mathlib.Decide.{ℕ_discrete, dec_lt}
use lib.Dec.{ltb}
use lib.ListN.{get_or}
use borrow.Author.Tests.{ltb-true, ltb-false, lt-ltb, le-ltb}
use Rattle.sets.specs.Masks.{has_bit}
use Rattle.sets.proofs.Truth.{test, never}
use Rattle.arrays.specs.Layout.{logged_at, place_at}
use Rattle.drain.specs.Firsts.{first_below, reads}

-- r is the first number below n that passes, or n and none does
pub record IsFirst (p : ℕ → Bool) (n r : ℕ) : Type 0 where
  pub most : r ≤ n
  pub passes : r < n → p r ≡ true
  pub fails : (i : ℕ) → i < r → p i ≡ false

module _ (p : ℕ → Bool) where
  -- ---- as a loop finds it: none of the numbers below i passes if the first below i is i

  pub first_start : first_below p 0 ≡ 0
  unfolding first_below
  first_start = refl

  at_end : (n : ℕ) (v : Bool) → first_below p n ≡ n → p n ≡ v → first_below p (suc n) ≡ cond v n (suc n)
  unfolding first_below
  at_end n v e t = rw (e, le-ltb n n (omega arith), t)

  pub first_miss : (i : ℕ) → first_below p i ≡ i → p i ≡ false → first_below p (i + 1) ≡ i + 1
  first_miss i e f = rw add-one (at_end i false e f)

  earlier : (n : ℕ) → first_below p n < n → first_below p (suc n) ≡ first_below p n
  unfolding first_below
  earlier n h = rw (lt-ltb (first_below p n) n h)

  pub first_hit : (n i : ℕ) → i < n → first_below p i ≡ i → p i ≡ true → first_below p n ≡ i
  first_hit zero i h e t = absurd (omega arith)
  first_hit (suc n) i h e t = elim (ℕ_discrete i n) [
    | yes d ↦ subst (λ (k : ℕ). first_below p (suc k) ≡ i) d (at_end i true e t)
    | no d ↦
        let same : first_below p n ≡ i = first_hit n i (omega arith) e t in
        earlier n (omega arith) ∙ same
  ]

  pub first_end : (n i : ℕ) → i ≡ n → first_below p i ≡ i → first_below p n ≡ n
  first_end n i d e = subst (λ (k : ℕ). first_below p k ≡ k) d e

  -- ---- what it is

  one_more : (n : ℕ) → IsFirst p n (first_below p n) → IsFirst p (suc n) (first_below p (suc n))
  one_more n before = elim (test (ltb (first_below p n) n)) [
    | inl t ↦
        let h : first_below p n < n = ltb-true (first_below p n) n t in
        subst (IsFirst p (suc n)) (sym (earlier n h)) (record { most = omega arith; passes = λ l. before.passes h; fails = before.fails })
    | inr f ↦
        let e : first_below p n ≡ n = omega (arith, before.most, ltb-false (first_below p n) n f) in
        let none : (i : ℕ) → i < n → p i ≡ false = λ i h. before.fails i (omega arith) in
        elim (test (p n)) [
          | inl t ↦ subst (IsFirst p (suc n)) (sym (at_end n true e t)) (record { most = omega arith; passes = λ l. t; fails = none })
          | inr g ↦ subst (IsFirst p (suc n)) (sym (at_end n false e g)) (record { most = omega arith; passes = λ l. absurd (omega arith); fails = λ i h. all none g i h })
        ]
  ]
    where
      all : ((i : ℕ) → i < n → p i ≡ false) → p n ≡ false → (i : ℕ) → i < suc n → p i ≡ false
      all none g i h = elim (ℕ_discrete i n) [ yes d ↦ ap p d ∙ g | no d ↦ none i (omega arith) ]

  pub is_first : (n : ℕ) → IsFirst p n (first_below p n)
  is_first zero = subst (IsFirst p zero) (sym first_start) (record { most = omega arith; passes = λ h. absurd (omega arith); fails = λ i h. absurd (omega arith) })
  is_first (suc n) = one_more n (is_first n)

-- and nothing else is
pub first_is : (p : ℕ → Bool) (n r : ℕ) → IsFirst p n r → r ≡ first_below p n
first_is p n r h = go (is_first p n)
  where
    go : IsFirst p n (first_below p n) → r ≡ first_below p n
    go g = elim (dec_lt r (first_below p n)) [
      | yes l ↦ absurd (never (h.passes (omega (arith, g.most, l))) (g.fails r l))
      | no l ↦ elim (ℕ_discrete r (first_below p n)) [
        | yes e ↦ e
        | no d ↦
            let before : first_below p n < r = omega arith in
            absurd (never (g.passes (omega (arith, h.most, before))) (h.fails (first_below p n) before))
      ]
    ]

-- ---- which sites have log left

module _ (counts : List ℕ) (down p : ℕ) where
  pub reads_down : has_bit down p ≡ true → reads counts down p ≡ false
  unfolding reads
  reads_down t = rw t

  pub reads_up : (v : Bool) → has_bit down p ≡ false → ltb (get_or counts (place_at p) 0) (get_or counts logged_at 0) ≡ v → reads counts down p ≡ v
  unfolding reads
  reads_up v f t = rw (f, t)
