-- Laws of lists of numbers: listed, distinct and rising with one number more at the end; what rises is distinct.
-- Rests on Numbers and Truth. Assumes nothing.
use Prim.Native.Nat.{ℕ, ◌<◌}
use mathlib.Core.Path.{◌≡◌, refl, sym, ap, ◌∙◌}
use mathlib.Core.Logic.{inl, inr}
use mathlib.Core.Bool.{Bool, true, false, ◌||◌, not, or_assoc, or-false}
use mathlib.Core.List.{List, [], ◌∷◌, ◌++◌}
use native.Mathlib.Omega.{arith}
use lib.Dec.{eqb, ltb}
use borrow.Author.Tests.{eq-eqb, ne_eqb, eqb-true, ltb-true, lt-ltb}
use Rattle.std.specs.List.{list_any}
use Rattle.sets.proofs.Truth.{never, not_so, and_left, and_right, or_cases, or_left, or_right, or_neither, not_flips}
use Rattle.sets.specs.Numbers.{listed, distinct, above, rising}

pub listed_append : (x : ℕ) (l r : List ℕ) → listed x (l ++ r) ≡ (listed x l || listed x r)
unfolding listed
listed_append x [] r = refl
listed_append x (y ∷ l) r = ap (λ (b : Bool). eqb x y || b) (listed_append x l r) ∙ sym (or_assoc (eqb x y) (listed x l) (listed x r))

pub listed_last : (x : ℕ) (l : List ℕ) (y : ℕ) → listed x (l ++ y ∷ []) ≡ (listed x l || eqb x y)
unfolding listed
listed_last x l y = listed_append x l (y ∷ []) ∙ ap (λ (b : Bool). listed x l || b) (or-false (eqb x y))

-- as `any` over a list tests it
pub any_listed : (x : ℕ) (l : List ℕ) → list_any (eqb x) l ≡ listed x l
unfolding listed
any_listed x [] = refl
any_listed x (y ∷ l) = ap (λ (b : Bool). eqb x y || b) (any_listed x l)

-- a new number at the end
pub distinct_last : (l : List ℕ) (y : ℕ) → distinct l ≡ true → listed y l ≡ false → distinct (l ++ y ∷ []) ≡ true
unfolding distinct listed
distinct_last [] y d f = refl
distinct_last (x ∷ l) y d f =
    let old : listed x l ≡ false = not_flips (listed x l) (and_left (not (listed x l)) (distinct l) d) in
    let (e, rest) = or_neither (eqb y x) (listed y l) f in
    let new : eqb x y ≡ false = ne_eqb x y (λ q. never (eq-eqb y x (sym q)) e) in
    rw (listed_last x l y, old, new) (distinct_last l y (and_right (not (listed x l)) (distinct l) d) rest)

pub above_listed : (x y : ℕ) (l : List ℕ) → above x l ≡ true → listed y l ≡ true → x < y
unfolding above listed
above_listed x y [] a t = absurd (never t refl)
above_listed x y (z ∷ l) a t = elim (or_cases (eqb y z) (listed y l) t) [
  | inl e ↦ omega (arith, eqb-true y z e, ltb-true x z (and_left (ltb x z) (above x l) a))
  | inr r ↦ above_listed x y l (and_right (ltb x z) (above x l) a) r
]

pub listed_above : (x : ℕ) (l : List ℕ) → ((y : ℕ) → listed y l ≡ true → x < y) → above x l ≡ true
unfolding above listed
listed_above x [] h = refl
listed_above x (z ∷ l) h =
    rw (lt-ltb x z (h z (or_left (eqb z z) (listed z l) (eq-eqb z z refl))))
    (listed_above x l (λ y t. h y (or_right (eqb y z) (listed y l) t)))

pub rising_distinct : (l : List ℕ) → rising l ≡ true → distinct l ≡ true
unfolding rising distinct
rising_distinct [] r = refl
rising_distinct (x ∷ l) r =
    let a : above x l ≡ true = and_left (above x l) (rising l) r in
    rw (not_so (listed x l) (λ t. absurd (omega (arith, above_listed x x l a t))))
    (rising_distinct l (and_right (above x l) (rising l) r))

-- a larger number at the end
pub rising_last : (l : List ℕ) (y : ℕ) → rising l ≡ true → ((x : ℕ) → listed x l ≡ true → x < y) → rising (l ++ y ∷ []) ≡ true
unfolding rising listed above
rising_last [] y r h = refl
rising_last (x ∷ l) y r h =
    let a : above x l ≡ true = and_left (above x l) (rising l) r in
    let more : above x (l ++ y ∷ []) ≡ true = listed_above x (l ++ y ∷ []) (λ z t. each z a t) in
    rw more (rising_last l y (and_right (above x l) (rising l) r) (λ z t. h z (or_right (eqb z x) (listed z l) t)))
  where
    each : (z : ℕ) → above x l ≡ true → listed z (l ++ y ∷ []) ≡ true → x < z
    each z a t = elim (or_cases (listed z l) (eqb z y) (sym (listed_last z l y) ∙ t)) [
      | inl s ↦ above_listed x z l a s
      | inr e ↦ omega (arith, eqb-true z y e, h x (or_left (eqb x x) (listed x l) (eq-eqb x x refl)))
    ]
