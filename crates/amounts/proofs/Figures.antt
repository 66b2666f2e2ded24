-- Laws of signed numbers: their texts, and as the code tests them, whether one is zero and whether two are the same.
-- Rests on Amounts, on books and printer. Assumes nothing.
use Prim.Native.Nat.{ℕ, suc, ◌-◌, ◌<◌}
use mathlib.Core.Path.{◌≡◌, refl, sym, ◌∙◌}
use mathlib.Core.Logic.{◌≢◌}
use mathlib.Core.Bool.{true, false, true≢false}
use mathlib.Core.List.{[], ◌∷◌, ◌++◌}
use native.Mathlib.Omega.{arith}
use lib.Dec.{eqb}
use lib.IntN.{ℤ, pos, negsuc, nat_abs}
use lib.Signed.{lt_z, mag}
use mir.Syntax.{w64}
use mir.Val.{SFits, of_z}
use mir.Facts.{to_z-of_z}
use borrow.Author.Tests.{ltb-true, eq-eqb, ne_eqb}
use Rattle.std.proofs.lemmas.Bool.Decides.{nat_tests}
use Rattle.books.proofs.Signed.{read_back}
use Rattle.printer.specs.Output.{decimal}
use Rattle.amounts.specs.Amounts.{sign, signed, is_zero, same_number}

-- what the machine reads of a number that fits
pub read_is : (x : ℤ) → mag x < 9223372036854775808 → read_back x ≡ x
read_is x h = to_z-of_z {w = w64} (record { sfits = h })

-- ---- texts

pub sign_negative : (x : ℤ) → SFits w64 x → lt_z (read_back x) (pos 0) ≡ true → 45 ∷ [] ≡ sign x
sign_negative x f t = go x (rw (to_z-of_z f) at t)
  where
    go : (x : ℤ) → lt_z x (pos 0) ≡ true → 45 ∷ [] ≡ sign x
    go (pos n) e = absurd (omega (arith, ltb-true n 0 e))
    go (negsuc n) e = refl

pub sign_other : (x : ℤ) → SFits w64 x → lt_z (read_back x) (pos 0) ≡ false → [] ≡ sign x
sign_other x f t = go x (rw (to_z-of_z f) at t)
  where
    go : (x : ℤ) → lt_z x (pos 0) ≡ false → [] ≡ sign x
    go (pos n) e = refl
    go (negsuc n) e = absurd (true≢false e)

pub sign_first : (x : ℤ) → sign x ++ decimal (nat_abs x) ≡ signed x
unfolding signed
sign_first (pos n) = refl
sign_first (negsuc n) = refl

-- ---- tests, of a size that the code holds

pub zero_is : (x : ℤ) (n : ℕ) → n ≡ nat_abs x → n ≡ 0 → is_zero x ≡ true
zero_is x n e z = eq-eqb (nat_abs x) 0 (sym e ∙ z)

pub not_zero : (x : ℤ) (n : ℕ) → n ≡ nat_abs x → n ≢ 0 → is_zero x ≡ false
not_zero x n e d = ne_eqb (nat_abs x) 0 (λ z. d (e ∙ z))

-- ---- two numbers

-- the same, where the machine compares their bits
pub same_bits : (x y : ℤ) → SFits w64 x → SFits w64 y → eqb (of_z w64 x) (of_z w64 y) ≡ same_number x y
unfolding same_number
same_bits (pos m) (pos n) f g = refl
same_bits (pos m) (negsuc n) f g = ne_eqb m (18446744073709551616 - suc n) (omega (arith, f.sfits, g.sfits))
same_bits (negsuc m) (pos n) f g = ne_eqb (18446744073709551616 - suc m) n (omega (arith, f.sfits, g.sfits))
same_bits (negsuc m) (negsuc n) f g =
    let a : m < 9223372036854775808 = omega (arith, f.sfits) in
    let b : n < 9223372036854775808 = omega (arith, g.sfits) in
    grind (arith, nat_tests)
