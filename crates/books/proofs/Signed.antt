-- Signed numbers: the sizes of sums, differences and products, and what the machine makes of an operation on i64 whose result fits.
-- Rests on nothing of the repository. Assumes nothing.
use mathlib.Core.Path.{◌≡◌, refl, sym, ap, ap₂, ◌∙◌, subst}
use mathlib.Core.Bool.{Bool, true, false}
use Prim.Native.Nat.{ℕ, zero, suc, ◌+◌, ◌*◌, ◌<◌, ◌≤◌}
use native.Mathlib.Nat.{le_refl}
use native.Mathlib.Omega.{arith}
use lib.Dec.{ltb}
use lib.IntN.{ℤ, pos, negsuc, neg_ℤ, nat_abs, ◌+ℤ◌, ◌-ℤ◌, ◌*ℤ◌, sub_ℕ, +ℤ_assoc, +ℤ_comm}
use borrow.Author.Tests.{ltb-true, ltb-false}
use mir.Syntax.{w64}
use mir.Val.{SFits, to_z, of_z}
use mir.Facts.{to_z-of_z}

-- ---- sums in another order
pub sum_swap : (x y z : ℤ) → (x +ℤ y) +ℤ z ≡ (x +ℤ z) +ℤ y
sum_swap x y z = +ℤ_assoc x y z ∙ ap (λ (w : ℤ). x +ℤ w) (+ℤ_comm y z) ∙ sym (+ℤ_assoc x z y)

pub sum_regroup : (a b c d : ℤ) → (a +ℤ b) +ℤ (c +ℤ d) ≡ (a +ℤ c) +ℤ (b +ℤ d)
sum_regroup a b c d = sym (+ℤ_assoc (a +ℤ b) c d) ∙ ap (λ (z : ℤ). z +ℤ d) (sum_swap a b c) ∙ +ℤ_assoc (a +ℤ c) b d

-- ---- sizes
pub size_neg : (z : ℤ) → nat_abs (neg_ℤ z) ≡ nat_abs z
size_neg (pos zero) = refl
size_neg (pos (suc n)) = refl
size_neg (negsuc n) = refl

size_apart : (a b : ℕ) (t : Bool) → ltb a b ≡ t → nat_abs (sub_ℕ a b) ≤ a + b
size_apart a b true e = let h : a < b = ltb-true a b e in rw e (omega arith)
size_apart a b false e = let h : b ≤ a = ltb-false a b e in rw e (omega arith)

pub size_sum : (x y : ℤ) → nat_abs (x +ℤ y) ≤ nat_abs x + nat_abs y
size_sum (pos a) (pos b) = le_refl (a + b)
size_sum (pos a) (negsuc b) = size_apart a (suc b) (ltb a (suc b)) refl
size_sum (negsuc a) (pos b) = let h = size_apart b (suc a) (ltb b (suc a)) refl in omega arith
size_sum (negsuc a) (negsuc b) = omega arith

pub size_difference : (x y : ℤ) → nat_abs (x -ℤ y) ≤ nat_abs x + nat_abs y
size_difference x y = omega (arith, size_sum x (neg_ℤ y), size_neg y)

pub size_product : (x y : ℤ) → nat_abs (x *ℤ y) ≡ nat_abs x * nat_abs y
size_product (pos a) (pos b) = refl
size_product (pos a) (negsuc b) = size_neg (pos (a * suc b))
size_product (negsuc a) (pos b) = size_neg (pos (suc a * b))
size_product (negsuc a) (negsuc b) = refl

-- ---- i64

-- what the machine reads where z was written
abbrev pub read_back : ℤ → ℤ
read_back z = to_z w64 (of_z w64 z)

pub fits : (z : ℤ) → nat_abs z < 9223372036854775808 → SFits w64 z
fits (pos n) h = record { sfits = h }
fits (negsuc n) h = record { sfits = omega arith }

pub read_back_lem : (z : ℤ) → nat_abs z < 9223372036854775808 → read_back z ≡ z
read_back_lem z h = to_z-of_z (fits z h)

-- an operation on two numbers, which reads them and writes its result
module _ (f : ℤ → ℤ → ℤ) (x y : ℤ) (fx : SFits w64 x) (fy : SFits w64 y) (h : nat_abs (f x y) < 9223372036854775808) where
  pub op_fits : SFits w64 (f (read_back x) (read_back y))
  op_fits = subst (λ (z : ℤ). SFits w64 z) (sym (ap₂ f (to_z-of_z fx) (to_z-of_z fy))) (fits (f x y) h)

  pub op_is : read_back (f (read_back x) (read_back y)) ≡ f x y
  op_is = ap (λ (z : ℤ). read_back z) (ap₂ f (to_z-of_z fx) (to_z-of_z fy)) ∙ to_z-of_z (fits (f x y) h)

-- a sum and a difference of two numbers whose sizes together fit
module _ (x y : ℤ) (h : nat_abs x + nat_abs y < 9223372036854775808) where
  fits_x : SFits w64 x
  fits_x = fits x (omega arith)

  fits_y : SFits w64 y
  fits_y = fits y (omega arith)

  pub sum_fits : SFits w64 (read_back x +ℤ read_back y)
  sum_fits = op_fits ◌+ℤ◌ x y fits_x fits_y (omega (arith, size_sum x y))

  pub sum_is : read_back (read_back x +ℤ read_back y) ≡ x +ℤ y
  sum_is = op_is ◌+ℤ◌ x y fits_x fits_y (omega (arith, size_sum x y))
