-- Whether a product fits, told by the zeros before the first ones of its factors.
-- Rests on Answers and books. Assumes nothing.
use Prim.Native.Nat.{ℕ, zero, ◌+◌, ◌*◌, ◌^◌, ◌<◌, ◌≤◌}
use mathlib.Core.Path.{◌≡◌, sym}
use mathlib.Core.Bool.{false}
use native.Mathlib.Nat.{le_trans, le_of_eq, le_of_lt, lt_of_le_of_lt, lt_of_lt_of_le, mul-le-mul, mul-le-mul_left, pos_of_ne-zero}
use native.Mathlib.Omega.{arith}
use lib.Dec.{leb, leb-suc-suc}
use lib.Pow.{pow-add, pow_mono, shl_lt}
use lib.Count.{count_leading_zeros, leading_of_zero, leading_top, leading_length}
use lib.IntN.{ℤ, nat_abs}
use borrow.Author.Tests.{le-ltb}
use Rattle.books.proofs.Signed.{size_product}
use Rattle.by_bytes.specs.Answers.{product_fits}

-- 64 zeros or more: a product of a and b bits, a + b at most 64, has no more than 64
pub short_product : (p q : ℕ) → p < 2 ^ 64 → q < 2 ^ 64 → 64 ≤ count_leading_zeros 64 p + count_leading_zeros 64 q → p * q < 2 ^ 64
short_product p q hp hq zeros =
    let a = leading_length 64 p hp in
    let b = leading_length 64 q hq in
    let most : a.0 + b.0 ≤ 64 = omega (arith, a.1, b.1) in
    lt_of_lt_of_le (lt_of_le_of_lt (mul-le-mul_left p (le_of_lt b.2)) (shl_lt {a = p} a.0 b.0 a.2)) (pow_mono most)

-- a number with fewer than 64 zeros is not 0
some : (p : ℕ) → count_leading_zeros 64 p < 64 → zero < p
some p h = pos_of_ne-zero (λ e. let all : count_leading_zeros 64 p ≡ 64 = rw e (leading_of_zero 64) in omega arith)

-- fewer than 64 zeros: the first ones alone make 2^63 or more
pub long_product : (p q : ℕ) → p < 2 ^ 64 → q < 2 ^ 64 → count_leading_zeros 64 p + count_leading_zeros 64 q < 64 → 2 ^ 63 ≤ p * q
long_product p q hp hq zeros =
    let p-some : count_leading_zeros 64 p < 64 = omega arith in
    let q-some : count_leading_zeros 64 q < 64 = omega arith in
    let a = leading_top 64 p (some p p-some) hp in
    let b = leading_top 64 q (some q q-some) hq in
    let least : 63 ≤ a.0 + b.0 = omega (arith, a.1, b.1) in
    le_trans (pow_mono least) (le_trans (le_of_eq (pow-add 2 a.0 b.0)) (mul-le-mul a.2 b.2))

pub fits_short : (p r : ℤ) → leb (nat_abs p * nat_abs r) 9223372036854775807 ≡ product_fits p r
unfolding product_fits
fits_short p r = rw (size_product p r) (sym (leb-suc-suc (nat_abs p * nat_abs r) 9223372036854775807))

pub fits_long : (p r : ℤ) → 2 ^ 63 ≤ nat_abs p * nat_abs r → product_fits p r ≡ false
unfolding product_fits
fits_long p r h = rw (size_product p r) (le-ltb (nat_abs p * nat_abs r) 9223372036854775808 h)
