-- Laws of tests below n: what all and any say of single numbers, counts of equal tests, and the first number apart.
-- Rests on Below and Truth. Assumes nothing.
use Prim.Native.Nat.{ℕ, zero, suc, ◌+◌, ◌<◌, ◌≤◌}
use mathlib.Core.Path.{◌≡◌, refl, sym, ap, ap₂, ◌∙◌}
use mathlib.Core.Logic.{inl, inr}
use mathlib.Core.List.{List, [], ◌∷◌}
use lib.ListN.{length, get_or, take}
use mathlib.Core.Bool.{Bool, true, false, ◌&&◌, and_assoc, and-true}
use native.Mathlib.Omega.{arith}
use native.Mathlib.Numerals.{add-one}
use native.Mathlib.Decide.{ℕ_discrete}
use Rattle.sets.proofs.Truth.{test, never, and_left, and_right, and_intro, or_cases, or_left, or_right}
use Rattle.std.specs.List.{list_all, range_with_len}
use Rattle.sets.specs.Below.{all_below, any_below, one, count}

-- ---- all

pub all_at : (p : ℕ → Bool) (n i : ℕ) → all_below p n ≡ true → i < n → p i ≡ true
unfolding all_below
all_at p zero i t h = absurd (omega arith)
all_at p (suc n) i t h = elim (ℕ_discrete i n) [
  | yes e ↦ rw e (and_right (all_below p n) (p n) t)
  | no d ↦ all_at p n i (and_left (all_below p n) (p n) t) (omega arith)
]

pub all_from : (p : ℕ → Bool) (n : ℕ) → ((i : ℕ) → i < n → p i ≡ true) → all_below p n ≡ true
unfolding all_below
all_from p zero h = refl
all_from p (suc n) h = and_intro (all_below p n) (p n) (all_from p n (λ i l. h i (omega arith))) (h n (omega arith))

-- a number that fails
pub all_fails : (p : ℕ → Bool) (n i : ℕ) → i < n → p i ≡ false → all_below p n ≡ false
all_fails p n i h f = elim (test (all_below p n)) [ inl t ↦ absurd (never (all_at p n i t h) f) | inr g ↦ g ]

pub all_none : (p : ℕ → Bool) → all_below p 0 ≡ true
unfolding all_below
all_none p = refl

pub all_ext : (p q : ℕ → Bool) (n : ℕ) → ((i : ℕ) → i < n → p i ≡ q i) → all_below p n ≡ all_below q n
unfolding all_below
all_ext p q zero h = refl
all_ext p q (suc n) h = ap₂ (λ (a b : Bool). a && b) (all_ext p q n (λ i l. h i (omega arith))) (h n (omega arith))

-- the first number apart
pub all_shift : (p : ℕ → Bool) (n : ℕ) → all_below p (suc n) ≡ (p 0 && all_below (λ i. p (suc i)) n)
unfolding all_below
all_shift p zero = sym (and-true (p 0))
all_shift p (suc n) = ap (λ (b : Bool). b && p (suc n)) (all_shift p n) ∙ and_assoc (p 0) (all_below (λ i. p (suc i)) n) (p (suc n))

-- as a loop shows them: one more, and all
pub all_more : (p : ℕ → Bool) (n : ℕ) → all_below p n ≡ true → p n ≡ true → all_below p (n + 1) ≡ true
unfolding all_below
all_more p n t h = rw add-one (and_intro (all_below p n) (p n) t h)

pub all_end : (p : ℕ → Bool) (n i : ℕ) → i ≡ n → all_below p i ≡ true → all_below p n ≡ true
all_end p n i e t = ap (all_below p) (sym e) ∙ t

-- as `all` over a range tests them
all_range_from : (p : ℕ → Bool) (n a : ℕ) → list_all p (range_with_len a n) ≡ all_below (λ i. p (a + i)) n
unfolding all_below
all_range_from p zero a = refl
all_range_from p (suc n) a =
    let next : all_below (λ i. p (a + 1 + i)) n ≡ all_below (λ i. p (a + suc i)) n = all_ext (λ i. p (a + 1 + i)) (λ i. p (a + suc i)) n (λ i l. ap p (omega arith)) in
    ap₂ (λ (b c : Bool). b && c) (ap p (omega arith)) (all_range_from p n (a + 1) ∙ next) ∙ sym (all_shift (λ i. p (a + i)) n)

pub all_range : (p : ℕ → Bool) (n : ℕ) → list_all p (range_with_len 0 n) ≡ all_below p n
all_range p n = all_range_from p n 0 ∙ all_ext (λ i. p (0 + i)) p n (λ i l. ap p (omega arith))

-- as `all` over the first n of a list tests them
pub all_taken : {A : Type 0} (p : A → Bool) (d : A) (n : ℕ) (l : List A) → n ≤ length l → list_all p (take n l) ≡ all_below (λ i. p (get_or l i d)) n
unfolding all_below
all_taken p d zero l h = refl
all_taken p d (suc n) [] h = absurd (omega arith)
all_taken p d (suc n) (x ∷ l) h =
    ap (λ (b : Bool). p x && b) (all_taken p d n l (omega arith)) ∙ sym (all_shift (λ i. p (get_or (x ∷ l) i d)) n)

-- ---- any

pub any_from : (p : ℕ → Bool) (n i : ℕ) → i < n → p i ≡ true → any_below p n ≡ true
unfolding any_below
any_from p zero i h t = absurd (omega arith)
any_from p (suc n) i h t = elim (ℕ_discrete i n) [
  | yes e ↦ or_right (any_below p n) (p n) (ap p (sym e) ∙ t)
  | no d ↦ or_left (any_below p n) (p n) (any_from p n i (omega arith) t)
]

pub any_at : (p : ℕ → Bool) (n : ℕ) → any_below p n ≡ true → (i : ℕ) × (i < n) × (p i ≡ true)
unfolding any_below
any_at p zero t = absurd (never t refl)
any_at p (suc n) t = elim (or_cases (any_below p n) (p n) t) [
  | inl s ↦ let (i, h, q) = any_at p n s in (i, omega arith, q)
  | inr q ↦ (n, omega arith, q)
]

-- ---- count

pub count_ext : (p q : ℕ → Bool) (n : ℕ) → ((i : ℕ) → i < n → p i ≡ q i) → count p n ≡ count q n
unfolding count
count_ext p q zero h = refl
count_ext p q (suc n) h = omega (arith, ap one (h n (omega arith)), count_ext p q n (λ i l. h i (omega arith)))

-- the first number apart
pub count_shift : (p : ℕ → Bool) (n : ℕ) → count p (suc n) ≡ one (p 0) + count (λ i. p (suc i)) n
unfolding count
count_shift p zero = refl
count_shift p (suc n) = omega (arith, count_shift p n)
