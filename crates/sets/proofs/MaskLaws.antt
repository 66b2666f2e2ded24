-- Laws of masks: one bit, masks joined and met, a bit set, a bit cleared, the complement, and the ones of a mask counted.
-- has_bit_half steps through the bits; bits_ext: masks with the same bits are equal; ones_count: the ones of a mask
-- are as many as the bits that it has. Every law holds at any width. Rests on Masks and Below. Assumes nothing.
use Prim.Native.Nat.{ℕ, zero, suc, ◌+◌, ◌*◌, ◌-◌, ◌/◌, ◌%◌, ◌^◌, ◌<◌, ◌≤◌}
use mathlib.Core.Path.{◌≡◌, refl, sym, ap, ◌∙◌}
use mathlib.Core.Bool.{Bool, true, false, ◌&&◌, ◌||◌, not}
use native.Mathlib.Nat.{one-mul}
use native.Mathlib.Omega.{arith}
use lib.Dec.{lit<, eqb, eqb-suc-suc, eqb-zero-suc, eqb-suc-zero}
use lib.Bits.{bit_or, bit_and, or_shr, or_mod, and_shr, and_mod}
use lib.Count.{ones, ones_step}
use lib.Pow.{shr-shr, pow-lt, shl_exact}
use Rattle.sets.specs.Below.{one, count}
use Rattle.sets.proofs.BelowLaws.{count_ext, count_shift}
use Rattle.sets.specs.Masks.{bit, has_bit}

-- ---- one bit

one_eqb : (x : ℕ) → x < 2 → one (eqb x 1) ≡ x
one_eqb zero h = refl
one_eqb (suc zero) h = refl
one_eqb (suc (suc x)) h = absurd (omega arith)

pub has_bit_low : (w : ℕ) → one (has_bit w 0) ≡ w % 2
unfolding has_bit
has_bit_low w = one_eqb (w / 1 % 2) (omega arith) ∙ omega arith

pub has_bit_half : (w k : ℕ) → has_bit w (suc k) ≡ has_bit (w / 2) k
unfolding has_bit
has_bit_half w k = ap (λ (x : ℕ). eqb (x % 2) 1) (ap (λ (j : ℕ). w / 2 ^ j) (omega arith) ∙ sym (shr-shr w 1 k))

pub has_bit_zero : (k : ℕ) → has_bit 0 k ≡ false
has_bit_zero zero = unfold has_bit in refl
has_bit_zero (suc k) = has_bit_half 0 k ∙ has_bit_zero k

-- a mask below 2 ^ n has no bit from n on
pub has_bit_above : (n w k : ℕ) → w < 2 ^ n → n ≤ k → has_bit w k ≡ false
has_bit_above zero w k h l = let e : w ≡ 0 = omega arith in ap (λ (x : ℕ). has_bit x k) e ∙ has_bit_zero k
has_bit_above (suc n) w zero h l = absurd (omega arith)
has_bit_above (suc n) w (suc k) h l = has_bit_half w k ∙ has_bit_above n (w / 2) k (omega arith) (omega arith)

half_pow : (k : ℕ) → 2 ^ suc k / 2 ≡ 2 ^ k
half_pow k = omega arith

pow_even : (k : ℕ) → has_bit (2 ^ suc k) 0 ≡ false
unfolding has_bit
pow_even k = let e : 2 ^ suc k / 1 % 2 ≡ 0 = omega arith in ap (λ (x : ℕ). eqb x 1) e

pub has_bit_pow : (m k : ℕ) → has_bit (2 ^ m) k ≡ eqb k m
has_bit_pow zero zero = unfold has_bit in refl
has_bit_pow zero (suc k) = has_bit_half 1 k ∙ has_bit_zero k ∙ sym (eqb-suc-zero k)
has_bit_pow (suc m) zero = pow_even m ∙ sym (eqb-zero-suc m)
has_bit_pow (suc m) (suc k) =
    has_bit_half (2 ^ suc m) k ∙ ap (λ (x : ℕ). has_bit x k) (half_pow m) ∙ has_bit_pow m k ∙ sym (eqb-suc-suc k m)

-- ---- two masks

or_bits : (x y : ℕ) → x < 2 → y < 2 → eqb (bit_or x y) 1 ≡ (eqb x 1 || eqb y 1)
or_bits zero zero h k = refl
or_bits zero (suc zero) h k = refl
or_bits (suc zero) zero h k = refl
or_bits (suc zero) (suc zero) h k = refl
or_bits zero (suc (suc y)) h k = absurd (omega arith)
or_bits (suc zero) (suc (suc y)) h k = absurd (omega arith)
or_bits (suc (suc x)) y h k = absurd (omega arith)

and_bits : (x y : ℕ) → x < 2 → y < 2 → eqb (bit_and x y) 1 ≡ (eqb x 1 && eqb y 1)
and_bits zero zero h k = refl
and_bits zero (suc zero) h k = refl
and_bits (suc zero) zero h k = refl
and_bits (suc zero) (suc zero) h k = refl
and_bits zero (suc (suc y)) h k = absurd (omega arith)
and_bits (suc zero) (suc (suc y)) h k = absurd (omega arith)
and_bits (suc (suc x)) y h k = absurd (omega arith)

pub has_bit_or : (u v k : ℕ) → has_bit (bit_or u v) k ≡ (has_bit u k || has_bit v k)
unfolding has_bit
has_bit_or u v k =
    ap (λ (x : ℕ). eqb (x % 2) 1) (or_shr u v k) ∙ ap (λ (x : ℕ). eqb x 1) (or_mod (u / 2 ^ k) (v / 2 ^ k) 1)
    ∙ or_bits (bit u k) (bit v k) (omega arith) (omega arith)

pub has_bit_and : (u v k : ℕ) → has_bit (bit_and u v) k ≡ (has_bit u k && has_bit v k)
unfolding has_bit
has_bit_and u v k =
    ap (λ (x : ℕ). eqb (x % 2) 1) (and_shr u v k) ∙ ap (λ (x : ℕ). eqb x 1) (and_mod (u / 2 ^ k) (v / 2 ^ k) 1)
    ∙ and_bits (bit u k) (bit v k) (omega arith) (omega arith)

-- masks below 2 ^ n with the same bits are equal
pub bits_ext : (n u v : ℕ) → u < 2 ^ n → v < 2 ^ n → ((k : ℕ) → k < n → has_bit u k ≡ has_bit v k) → u ≡ v
bits_ext zero u v hu hv same = omega arith
bits_ext (suc n) u v hu hv same =
    omega (
      arith,
      sym (has_bit_low u) ∙ ap one (same 0 (omega arith)) ∙ has_bit_low v,
      bits_ext n (u / 2) (v / 2) (omega arith) (omega arith)
          (λ k h. sym (has_bit_half u k) ∙ same (suc k) (omega arith) ∙ has_bit_half v k),
    )

-- ---- one bit set or cleared

-- the code's 1 << m, at any width
pub one_shl : (width m : ℕ) → m < width → 1 * 2 ^ m % 2 ^ width ≡ 2 ^ m
one_shl width m h = shl_exact 1 m width (lit< tt) (omega arith) ∙ one-mul (2 ^ m)

pub has_bit_set : (w m k : ℕ) → has_bit (bit_or w (2 ^ m)) k ≡ (has_bit w k || eqb k m)
has_bit_set w m k = has_bit_or w (2 ^ m) k ∙ ap (λ (b : Bool). has_bit w k || b) (has_bit_pow m k)

one_not : (a b : Bool) → one a + one b ≡ 1 → a ≡ not b
one_not true true h = absurd (omega arith)
one_not true false h = refl
one_not false true h = refl
one_not false false h = absurd (omega arith)

-- the complement of a mask of n bits
pub has_bit_not : (n w k : ℕ) → w < 2 ^ n → k < n → has_bit ((2 ^ n - 1) - w) k ≡ not (has_bit w k)
has_bit_not zero w k h l = absurd (omega arith)
has_bit_not (suc n) w zero h l =
    one_not (has_bit ((2 ^ suc n - 1) - w) 0) (has_bit w 0) (omega (arith, has_bit_low ((2 ^ suc n - 1) - w), has_bit_low w))
has_bit_not (suc n) w (suc k) h l =
    let e : ((2 ^ suc n - 1) - w) / 2 ≡ (2 ^ n - 1) - w / 2 = omega arith in
    has_bit_half ((2 ^ suc n - 1) - w) k ∙ ap (λ (x : ℕ). has_bit x k) e ∙ has_bit_not n (w / 2) k (omega arith) (omega arith)
    ∙ ap not (sym (has_bit_half w k))

pub has_bit_clear : (n w m k : ℕ) → m < n → k < n → has_bit (bit_and w ((2 ^ n - 1) - 2 ^ m)) k ≡ (has_bit w k && not (eqb k m))
has_bit_clear n w m k hm hk =
    has_bit_and w ((2 ^ n - 1) - 2 ^ m) k
    ∙ ap (λ (b : Bool). has_bit w k && b) (has_bit_not n (2 ^ m) k (pow-lt hm) hk ∙ ap not (has_bit_pow m k))

-- ---- counting

-- the ones of a mask of n bits are as many as the bits that it has
pub ones_count : (n w : ℕ) → w < 2 ^ n → ones w ≡ count (has_bit w) n
unfolding ones count
ones_count zero w h = let e : w ≡ 0 = omega arith in rw e
ones_count (suc n) w h =
    omega (
      arith,
      ones_step w,
      ones_count n (w / 2) (omega arith),
      count_shift (has_bit w) n,
      has_bit_low w,
      count_ext (λ i. has_bit w (suc i)) (has_bit (w / 2)) n (λ i _. has_bit_half w i),
    )
