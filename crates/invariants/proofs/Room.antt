-- A sound record that lacks an offered posting has room for it: numbers below the capacity, none twice, are at most that many.
-- Rests on machine. Assumes nothing.
use Prim.Native.Nat.{ℕ, zero, suc, ◌+◌, ◌<◌, ◌≤◌}
use mathlib.Core.Path.{◌≡◌, refl, sym, ap, ◌∙◌}
use mathlib.Core.Logic.{◌⊎◌, inl, inr}
use mathlib.Core.Bool.{Bool, true, false, cond, not, ◌&&◌, ◌||◌}
use mathlib.Core.List.{List, [], ◌∷◌, ◌++◌}
use native.Mathlib.Omega.{arith}
use native.Mathlib.Decide.{ℕ_discrete}
use lib.Dec.{eqb, ltb}
use lib.ListN.{length, get_or, take, length-append}
use lib.Seq.{get_or-take}
use borrow.Author.Tests.{eqb-true, eq-eqb, ne_eqb}
use Rattle.sets.proofs.Truth.{test, never, not_so, and_left, and_right, and_intro, or_cases, or_left, or_right, or_neither, not_flips}
use Rattle.sets.specs.Numbers.{listed, distinct}
use Rattle.sets.proofs.NumberLaws.{distinct_last, listed_last}
use Rattle.sets.specs.Sets.{capacity}
use Rattle.posting.specs.declared.Table.{Table}
use Rattle.posting.specs.declared.Record.{Record}
use Rattle.posting.specs.Conflicts.{offered}
use Rattle.posting.proofs.ConflictLaws.{offered_below}
use Rattle.posting.specs.Records.{numbers_of, contains}
use Rattle.posting.proofs.RecordLaws.{Places, length_numbers}
use Rattle.machine.proofs.SoundFacts.{RecordSound}

-- the list without x
without : ℕ → List ℕ → List ℕ
without x [] = []
without x (y ∷ l) = cond (eqb x y) (without x l) (y ∷ without x l)

without_listed : (x y : ℕ) (l : List ℕ) → listed y (without x l) ≡ true → (listed y l ≡ true) × (y ≡ x → ⊥)
unfolding without listed
without_listed x y [] h = absurd (never h refl)
without_listed x y (z ∷ l) h = elim (test (eqb x z)) [
  | inl e ↦ let (k, d) = without_listed x y l (rw e at h) in (or_right (eqb y z) (listed y l) k, d)
  | inr e ↦ elim (or_cases (eqb y z) (listed y (without x l)) (rw e at h)) [
    | inl k ↦ (or_left (eqb y z) (listed y l) k, λ d. never (eq-eqb x z (sym d ∙ eqb-true y z k)) e)
    | inr k ↦ let (g, d) = without_listed x y l k in (or_right (eqb y z) (listed y l) g, d)
  ]
]

without_distinct : (x : ℕ) (l : List ℕ) → distinct l ≡ true → distinct (without x l) ≡ true
unfolding without distinct
without_distinct x [] h = refl
without_distinct x (z ∷ l) h =
    let fresh = not_flips (listed z l) (and_left (not (listed z l)) (distinct l) h) in
    let rest = without_distinct x l (and_right (not (listed z l)) (distinct l) h) in
    elim (test (eqb x z)) [
      | inl e ↦ rw e rest
      | inr e ↦ rw e (and_intro (not (listed z (without x l))) (distinct (without x l))
          (ap not (not_so (listed z (without x l)) (λ k. never (without_listed x z l k).0 fresh))) rest)
    ]

-- where x is not in the list, nothing is left out
without_none : (x : ℕ) (l : List ℕ) → listed x l ≡ false → length (without x l) ≡ length l
unfolding without listed
without_none x [] f = refl
without_none x (y ∷ l) f = let (a, b) = or_neither (eqb x y) (listed x l) f in rw a (ap suc (without_none x l b))

-- x is in the list at most once
without_length : (x : ℕ) (l : List ℕ) → distinct l ≡ true → length l ≤ suc (length (without x l))
unfolding without distinct
without_length x [] h = omega arith
without_length x (z ∷ l) h =
    let fresh = not_flips (listed z l) (and_left (not (listed z l)) (distinct l) h) in
    elim (test (eqb x z)) [
      | inl e ↦ rw e (omega (arith, without_none x l (ap (λ (v : ℕ). listed v l) (eqb-true x z e) ∙ fresh)))
      | inr e ↦ rw e (omega (arith, without_length x l (and_right (not (listed z l)) (distinct l) h)))
    ]

pub distinct_length : (n : ℕ) (l : List ℕ) → distinct l ≡ true → ((x : ℕ) → listed x l ≡ true → x < n) → length l ≤ n
distinct_length zero [] h below = omega arith
distinct_length zero (x ∷ l) h below = absurd (let k = below x (unfold listed in or_left (eqb x x) (listed x l) (eq-eqb x x refl)) in omega arith)
distinct_length (suc n) l h below =
    omega (
      arith,
      without_length n l h,
      distinct_length n (without n l) (without_distinct n l h) (λ x k. let (g, d) = without_listed n x l k in let lt = below x g in omega (arith, d)),
    )

-- a number of a list stands at some place
pub listed_at : (x : ℕ) (l : List ℕ) → listed x l ≡ true → (i : ℕ) × (i < length l) × (get_or l i 0 ≡ x)
unfolding listed
listed_at x [] h = absurd (never h refl)
listed_at x (y ∷ l) h = elim (or_cases (eqb x y) (listed x l) h) [
  | inl e ↦ (0, omega arith, sym (eqb-true x y e))
  | inr k ↦ let (i, lt, e) = listed_at x l k in (suc i, omega arith, e)
]

module _ (t : Table) (r : Record) (i : RecordSound t r) (places : Places r) where
  -- what a sound record names is offered
  pub listed_offered : (x : ℕ) → listed x (numbers_of r) ≡ true → offered t x ≡ true
  listed_offered x h =
      let (k, lt, e) = listed_at x (numbers_of r) h in
      let within : k < r.count = omega (arith, length_numbers r places i.within) in
      let same : get_or (numbers_of r) k 0 ≡ get_or r.numbers k 0 = unfold numbers_of in get_or-take r.count r.numbers k 0 within in
      rw (← e, same) (i.named k within)

  pub record_room : (m : ℕ) → offered t m ≡ true → contains r m ≡ false → r.count < capacity
  record_room m o lacks =
      let more = distinct_last (numbers_of r) m i.once (unfold contains in lacks) in
      let few = distinct_length capacity (numbers_of r ++ (m ∷ [])) more (λ x h.
      elim (or_cases (listed x (numbers_of r)) (eqb x m) (sym (listed_last x (numbers_of r) m) ∙ h)) [
        | inl k ↦ (offered_below t x (listed_offered x k)).1
        | inr k ↦ rw (eqb-true x m k) (offered_below t m o).1
      ]) in
      omega (arith, few, length-append (numbers_of r) (m ∷ []), length_numbers r places i.within)
