-- Laws of lists of sends: two lists one after the other; the sends to all and to all but one, how many they are, and the first j of those.
-- Rests on Flights and on site's sends. Assumes nothing.
use Prim.Native.Nat.{ℕ, zero, suc, ◌+◌, ◌-◌, ◌<◌, ◌≤◌, min}
use mathlib.Core.Path.{◌≡◌, refl, sym, ◌∙◌}
use mathlib.Core.Logic.{◌⊎◌, inl, inr}
use mathlib.Core.Bool.{Bool, true, false, cond, ◌&&◌, ◌||◌, or-false}
use mathlib.Core.List.{List, [], ◌∷◌, ◌++◌}
use native.Mathlib.Omega.{arith}
use native.Mathlib.Decide.{ℕ_discrete, dec_le, dec_lt}
use lib.Dec.{eqb, ltb, leb}
use lib.ListN.{length, take, length-append}
use lib.Seq.{take-nil, take_all, take-append-le}
use borrow.Author.Tests.{eq-eqb, ne_eqb, eqb-true, lt-ltb, le-ltb, ltb-true, le-leb, lt-leb}
use Rattle.sets.specs.Below.{one}
use Rattle.sets.proofs.Truth.{both_ways, and_left, and_right, and_intro, or_cases, or_left, or_right}
use Rattle.site.specs.Sends.{Send, to_all, to_others}
use Rattle.flight.specs.declared.Flight.{Flight}
use Rattle.flight.specs.Flights.{sending, sending_all}

pub all_append : (flight : Flight) (from : ℕ) (l r : List Send) → sending_all flight from (l ++ r) ≡ sending_all (sending_all flight from l) from r
unfolding sending_all
all_append flight from [] r = refl
all_append flight from (send ∷ l) r = all_append (sending flight from send) from l r

-- ---- the sends to all, and to all but p

pub ltb_more : (b n : ℕ) → ltb b (suc n) ≡ (ltb b n || eqb b n)
ltb_more b n =
    both_ways (ltb b (suc n)) (ltb b n || eqb b n)
    (λ t. elim (ℕ_discrete b n) [
      | yes e ↦ or_right (ltb b n) (eqb b n) (eq-eqb b n e)
      | no d ↦ or_left (ltb b n) (eqb b n) (lt-ltb b n (omega (arith, ltb-true b (suc n) t)))
    ])
    (λ t. elim (or_cases (ltb b n) (eqb b n) t) [
      | inl h ↦ lt-ltb b (suc n) (omega (arith, ltb-true b n h))
      | inr h ↦ lt-ltb b (suc n) (omega (arith, eqb-true b n h))
    ])

-- the first j sites but p are those but p below this number
abbrev pub up_to : ℕ → ℕ → ℕ
up_to j p = cond (leb j p) j (suc j)

up_to_cases : (j p : ℕ) → ((j ≤ p) × (up_to j p ≡ j)) ⊎ ((p < j) × (up_to j p ≡ suc j))
up_to_cases j p = elim (dec_le j p) [
  | yes h ↦ inl (h, rw (le-leb j p h))
  | no h ↦ inr (omega arith, rw (lt-leb j p (omega arith)))
]

one_more : (p n : ℕ) → one (ltb p (suc n)) ≡ one (ltb p n) + one (eqb n p)
one_more p n = elim (ℕ_discrete n p) [
  | yes e ↦ rw (e, lt-ltb p (suc p) (omega arith), le-ltb p p (omega arith), eq-eqb p p refl)
  | no d ↦
      rw (ne_eqb n p d, ltb_more p n, ne_eqb p n (λ e. d (sym e)), or-false (ltb p n)) (omega arith)
]

below_cases : (p n : ℕ) → ((p < n) × (one (ltb p n) ≡ 1)) ⊎ ((n ≤ p) × (one (ltb p n) ≡ 0))
below_cases p n = elim (dec_lt p n) [
  | yes h ↦ inl (h, rw (lt-ltb p n h))
  | no h ↦ inr (omega arith, rw (le-ltb p n (omega arith)))
]

module _ (send : ℕ → Send) where
  pub length_to_all : (n : ℕ) → length (to_all n send) ≡ n
  unfolding to_all
  length_to_all zero = refl
  length_to_all (suc n) = length-append (to_all n send) (send n ∷ []) ∙ omega (arith, length_to_all n)

  -- the first j of the sends to all
  pub take_to_all : (j n : ℕ) → take j (to_all n send) ≡ to_all (min j n) send
  unfolding to_all
  take_to_all j zero = let e : min j 0 ≡ 0 = omega arith in rw e (take-nil j)
  take_to_all j (suc n) = elim (dec_le j n) [
    | yes h ↦
        let e : min j (suc n) ≡ min j n = omega arith in
        rw e (take-append-le j (to_all n send) (send n ∷ []) (omega (arith, length_to_all n)) ∙ take_to_all j n)
    | no h ↦
        let e : min j (suc n) ≡ suc n = omega arith in
        rw e (take_all j (to_all (suc n) send) (omega (arith, length_to_all (suc n))))
  ]

  pub length_to_others : (n p : ℕ) → length (to_others n p send) + one (ltb p n) ≡ n
  unfolding to_others
  length_to_others zero p = rw (le-ltb p 0 (omega arith))
  length_to_others (suc n) p =
      omega (arith, length-append (to_others n p send) (cond (eqb n p) [] (send n ∷ [])), length_to_others n p, one_more p n, last (eqb n p))
    where
      last : (t : Bool) → length (cond t [] (send n ∷ [])) + one t ≡ 1
      last true = refl
      last false = refl

  -- the first j of the sends to all but p
  pub take_to_others : (j n p : ℕ) → take j (to_others n p send) ≡ to_others (min (up_to j p) n) p send
  unfolding to_others
  take_to_others j zero p = let e : min (up_to j p) 0 ≡ 0 = omega arith in rw e (take-nil j)
  take_to_others j (suc n) p = elim (dec_le (up_to j p) n) [
    | yes h ↦
        let e : min (up_to j p) (suc n) ≡ min (up_to j p) n = omega arith in
        rw e (take-append-le j (to_others n p send) (cond (eqb n p) [] (send n ∷ [])) (enough h (up_to_cases j p) (below_cases p n)) ∙ take_to_others j n p)
    | no h ↦
        let e : min (up_to j p) (suc n) ≡ suc n = omega arith in
        rw e (take_all j (to_others (suc n) p send) (whole (omega arith) (up_to_cases j p) (below_cases p (suc n))))
  ]
    where
      enough : up_to j p ≤ n → ((j ≤ p) × (up_to j p ≡ j)) ⊎ ((p < j) × (up_to j p ≡ suc j)) → ((p < n) × (one (ltb p n) ≡ 1)) ⊎ ((n ≤ p) × (one (ltb p n) ≡ 0)) → j ≤ length (to_others n p send)
      enough h (inl u) (inl v) = omega (arith, length_to_others n p)
      enough h (inl u) (inr v) = omega (arith, length_to_others n p)
      enough h (inr u) (inl v) = omega (arith, length_to_others n p)
      enough h (inr u) (inr v) = omega (arith, length_to_others n p)

      whole : suc n ≤ up_to j p → ((j ≤ p) × (up_to j p ≡ j)) ⊎ ((p < j) × (up_to j p ≡ suc j)) → ((p < suc n) × (one (ltb p (suc n)) ≡ 1)) ⊎ ((suc n ≤ p) × (one (ltb p (suc n)) ≡ 0))
          → length (to_others (suc n) p send) ≤ j
      whole h (inl u) (inl v) = omega (arith, length_to_others (suc n) p)
      whole h (inl u) (inr v) = omega (arith, length_to_others (suc n) p)
      whole h (inr u) (inl v) = omega (arith, length_to_others (suc n) p)
      whole h (inr u) (inr v) = omega (arith, length_to_others (suc n) p)

-- where a site stands among all but p, and that it is among the first j if that is below j
abbrev pub place_of : ℕ → ℕ → ℕ
place_of b p = cond (ltb b p) b (b - 1)

pub place_up_to : (j n p b : ℕ) → (b ≡ p → ⊥) → ltb b (min (up_to j p) n) ≡ (ltb b n && ltb (place_of b p) j)
place_up_to j n p b d =
    both_ways (ltb b (min (up_to j p) n)) (ltb b n && ltb (place_of b p) j)
    (λ t.
    let h : b < min (up_to j p) n = ltb-true b (min (up_to j p) n) t in
    and_intro (ltb b n) (ltb (place_of b p) j) (lt-ltb b n (omega arith)) (lt-ltb (place_of b p) j (same.0 (omega arith))))
    (λ t.
    let h : b < n = ltb-true b n (and_left (ltb b n) (ltb (place_of b p) j) t) in
    let k : b < up_to j p = same.1 (ltb-true (place_of b p) j (and_right (ltb b n) (ltb (place_of b p) j) t)) in
    lt-ltb b (min (up_to j p) n) (omega arith))
  where
    place : Dec (b < p) → ((b < p) × (place_of b p ≡ b)) ⊎ ((p < b) × (place_of b p ≡ b - 1))
    place (yes h) = inl (h, rw (lt-ltb b p h))
    place (no h) = inr (omega arith, rw (le-ltb b p (omega arith)))

    either :
        ((j ≤ p) × (up_to j p ≡ j)) ⊎ ((p < j) × (up_to j p ≡ suc j)) → ((b < p) × (place_of b p ≡ b)) ⊎ ((p < b) × (place_of b p ≡ b - 1))
        → (b < up_to j p → place_of b p < j) × (place_of b p < j → b < up_to j p)
    either (inl u) (inl v) = omega arith
    either (inl u) (inr v) = omega arith
    either (inr u) (inl v) = omega arith
    either (inr u) (inr v) = omega arith

    same : (b < up_to j p → place_of b p < j) × (place_of b p < j → b < up_to j p)
    same = either (up_to_cases j p) (place (dec_lt b p))
