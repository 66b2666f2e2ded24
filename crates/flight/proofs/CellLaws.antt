-- Laws of masks of receivers and of places: the bits of a mask less another and of the first n sites; where a pair or a cell stands, and that
-- no two share a place. Rests on Flights and on sets' laws of masks. Assumes nothing.
use Prim.Native.Nat.{ℕ, zero, suc, ◌+◌, ◌*◌, ◌-◌, ◌/◌, ◌^◌, ◌<◌, ◌≤◌, min}
use mathlib.Core.Path.{◌≡◌, refl, sym, ap, ◌∙◌}
use mathlib.Core.Logic.{◌⊎◌, inl, inr}
use mathlib.Core.Bool.{Bool, true, false, not, ◌&&◌, ◌||◌, or_assoc}
use native.Mathlib.Omega.{arith}
use native.Mathlib.Nat.{one-mul}
use lib.Dec.{eqb, ltb, lit<, leb-suc-suc}
use lib.Bits.{bit_or, and_step, and_le_l, or_lt, or_shifted_r}
use lib.Pow.{pow_pos, pow_mono, ones_lt}
use borrow.Author.Tests.{eq-eqb, eqb-true, lt-ltb, le-ltb, ltb-true}
use Rattle.sets.specs.Below.{one}
use Rattle.sets.specs.Masks.{has_bit}
use Rattle.sets.proofs.MaskLaws.{has_bit_low, has_bit_half, has_bit_zero, has_bit_or, bits_ext}
use Rattle.sets.proofs.Truth.{test, both_ways, and_left, and_right, and_intro}
use Rattle.sets.specs.Sets.{capacity}
use Rattle.site.specs.Sites.{sites}
use Rattle.site.specs.Sends.{forms}
use Rattle.flight.specs.Flights.{pairs, cells, is_pair, is_cell, pair_at, cell_at, less}

-- ---- masks

one_less : (a b c : Bool) → one a ≡ one b - min (one b) (one c) → a ≡ (b && not c)
one_less true true true e = absurd (omega arith)
one_less true true false e = refl
one_less true false true e = absurd (omega arith)
one_less true false false e = absurd (omega arith)
one_less false true true e = refl
one_less false true false e = absurd (omega arith)
one_less false false c e = refl

pub has_bit_less : (w r k : ℕ) → has_bit (less w r) k ≡ (has_bit w k && not (has_bit r k))
has_bit_less w r zero =
    one_less (has_bit (less w r) 0) (has_bit w 0) (has_bit r 0)
    (omega (arith, has_bit_low (less w r), has_bit_low w, has_bit_low r, and_step w r, and_le_l (w / 2) (r / 2)))
has_bit_less w r (suc k) =
    let e : less w r / 2 ≡ less (w / 2) (r / 2) = omega (arith, and_step w r, and_le_l (w / 2) (r / 2)) in
    has_bit_half (less w r) k ∙ ap (λ (x : ℕ). has_bit x k) e ∙ has_bit_less (w / 2) (r / 2) k
    ∙ sym (rw (has_bit_half w k, has_bit_half r k))

-- the mask of the sites below n
pub has_bit_ones : (n k : ℕ) → has_bit (2 ^ n - 1) k ≡ ltb k n
has_bit_ones zero k = has_bit_zero k ∙ sym (le-ltb k 0 (omega arith))
has_bit_ones (suc n) zero = elim (test (has_bit (2 ^ suc n - 1) 0)) [
  | inl t ↦ t ∙ sym (lt-ltb 0 (suc n) (omega arith))
  | inr f ↦ absurd (omega (arith, ap one f, has_bit_low (2 ^ suc n - 1), pow_pos n))
]
has_bit_ones (suc n) (suc k) =
    let e : (2 ^ suc n - 1) / 2 ≡ 2 ^ n - 1 = omega (arith, pow_pos n) in
    has_bit_half (2 ^ suc n - 1) k ∙ ap (λ (x : ℕ). has_bit x k) e ∙ has_bit_ones n k ∙ sym (leb-suc-suc (suc k) n)

pub ones_more : (n : ℕ) → bit_or (2 ^ n - 1) (2 ^ n) ≡ 2 ^ suc n - 1
ones_more n = ap (bit_or (2 ^ n - 1)) (sym (one-mul (2 ^ n))) ∙ or_shifted_r 1 n (2 ^ n - 1) (ones_lt n) ∙ omega (arith, pow_pos n)

below_pow : (n : ℕ) → n < 2 ^ n
below_pow zero = lit< tt
below_pow (suc n) = omega (arith, below_pow n)

-- a number has its bits below any number that is no smaller
within_pow : (x n : ℕ) → x ≤ n → x < 2 ^ n
within_pow x n h = omega (arith, below_pow x, pow_mono h)

pub bit_or_assoc : (u v w : ℕ) → bit_or (bit_or u v) w ≡ bit_or u (bit_or v w)
bit_or_assoc u v w =
    let n = u + (v + w) in
    let hu = within_pow u n (omega arith) in
    let hv = within_pow v n (omega arith) in
    let hw = within_pow w n (omega arith) in
    bits_ext n (bit_or (bit_or u v) w) (bit_or u (bit_or v w)) (or_lt n (bit_or u v) w (or_lt n u v hu hv) hw) (or_lt n u (bit_or v w) hu (or_lt n v w hv hw))
    (λ k h. rw (has_bit_or (bit_or u v) w k, has_bit_or u v k, has_bit_or u (bit_or v w) k, has_bit_or v w k) (or_assoc (has_bit u k) (has_bit v k) (has_bit w k)))

-- one mask after the other taken away
pub less_less : (u r q : ℕ) → less (less u r) q ≡ less u (bit_or r q)
less_less u r q =
    let small = below_pow u in
    bits_ext u (less (less u r) q) (less u (bit_or r q)) (omega arith) (omega arith)
    (λ k b. rw (has_bit_less (less u r) q k, has_bit_less u r k, has_bit_less u (bit_or r q) k, has_bit_or r q k)
    (each (has_bit u k) (has_bit r k) (has_bit q k)))
  where
    each : (a b c : Bool) → (a && not b && not c) ≡ (a && not (b || c))
    each true true c = refl
    each true false c = refl
    each false b c = refl

-- ---- places

-- one form, posting and sender are another
abbrev pub same_cell : ℕ → ℕ → ℕ → ℕ → ℕ → ℕ → Bool
same_cell f x a form m from = eqb f form && (eqb x m && eqb a from)

-- what the tests of a pair and of a cell say
pub pair_range : (m from : ℕ) → is_pair m from ≡ true → (m < capacity) × (from < sites)
pair_range m from t =
    (ltb-true m capacity (and_left (ltb m capacity) (ltb from sites) t), ltb-true from sites (and_right (ltb m capacity) (ltb from sites) t))

pub cell_range : (form m from : ℕ) → is_cell form m from ≡ true → (form < forms) × (m < capacity) × (from < sites)
cell_range form m from t =
    let (hm, hf) = pair_range m from (and_right (ltb form forms) (is_pair m from) t) in
    (ltb-true form forms (and_left (ltb form forms) (is_pair m from) t), hm, hf)

pub range_cell : (form m from : ℕ) → form < forms → m < capacity → from < sites → is_cell form m from ≡ true
range_cell form m from h hm hf = rw (lt-ltb form forms h, lt-ltb m capacity hm, lt-ltb from sites hf)

pub pair_in : (m from : ℕ) → m < capacity → from < sites → pair_at m from ≡ m * sites + from
unfolding pair_at
pair_in m from hm hf = rw (lt-ltb m capacity hm, lt-ltb from sites hf)

pub pair_out : (m from : ℕ) → is_pair m from ≡ false → pair_at m from ≡ pairs
unfolding pair_at
pair_out m from f = rw f

pub pair_below : (m from : ℕ) → m < capacity → from < sites → pair_at m from < pairs
pair_below m from hm hf = omega (arith, pair_in m from hm hf)

pub cell_in : (form m from : ℕ) → form < forms → m < capacity → from < sites → cell_at form m from ≡ form * pairs + (m * sites + from)
unfolding cell_at
cell_in form m from h hm hf = rw (lt-ltb form forms h, lt-ltb m capacity hm, lt-ltb from sites hf)

pub cell_out : (form m from : ℕ) → is_cell form m from ≡ false → cell_at form m from ≡ cells
unfolding cell_at
cell_out form m from f = rw f

pub cell_below : (form m from : ℕ) → form < forms → m < capacity → from < sites → cell_at form m from < cells
cell_below form m from h hm hf = omega (arith, cell_in form m from h hm hf)

-- two pairs, or two cells, share no place
pub pair_same : (x a m from : ℕ) → m < capacity → from < sites → eqb (pair_at x a) (pair_at m from) ≡ (eqb x m && eqb a from)
pair_same x a m from hm hf = both_ways (eqb (pair_at x a) (pair_at m from)) (eqb x m && eqb a from) ahead back
  where
    equal : (is_pair x a ≡ true) ⊎ (is_pair x a ≡ false) → pair_at x a ≡ pair_at m from → eqb x m && eqb a from ≡ true
    equal (inl t) e =
        let (hx, ha) = pair_range x a t in
        let s : x * sites + a ≡ m * sites + from = sym (pair_in x a hx ha) ∙ e ∙ pair_in m from hm hf in
        and_intro (eqb x m) (eqb a from) (eq-eqb x m (omega arith)) (eq-eqb a from (omega arith))
    equal (inr f) e = absurd (omega (arith, pair_out x a f, pair_below m from hm hf))

    ahead : eqb (pair_at x a) (pair_at m from) ≡ true → eqb x m && eqb a from ≡ true
    ahead t = equal (test (is_pair x a)) (eqb-true (pair_at x a) (pair_at m from) t)

    back : eqb x m && eqb a from ≡ true → eqb (pair_at x a) (pair_at m from) ≡ true
    back t =
        let e : x ≡ m = eqb-true x m (and_left (eqb x m) (eqb a from) t) in
        let g : a ≡ from = eqb-true a from (and_right (eqb x m) (eqb a from) t) in
        rw (e, g) (eq-eqb (pair_at m from) (pair_at m from) refl)

pub same_cell_lem : (f x a form m from : ℕ) → same_cell f x a form m from ≡ true → (f ≡ form) × (x ≡ m) × (a ≡ from)
same_cell_lem f x a form m from t =
    let r = and_right (eqb f form) (eqb x m && eqb a from) t in (
      eqb-true f form (and_left (eqb f form) (eqb x m && eqb a from) t),
      eqb-true x m (and_left (eqb x m) (eqb a from) r),
      eqb-true a from (and_right (eqb x m) (eqb a from) r),
    )

pub cell_same :
    (f x a form m from : ℕ) → form < forms → m < capacity → from < sites → eqb (cell_at f x a) (cell_at form m from) ≡ same_cell f x a form m from
cell_same f x a form m from h hm hf = both_ways (eqb (cell_at f x a) (cell_at form m from)) (same_cell f x a form m from) ahead back
  where
    equal : (is_cell f x a ≡ true) ⊎ (is_cell f x a ≡ false) → cell_at f x a ≡ cell_at form m from → same_cell f x a form m from ≡ true
    equal (inl t) e =
        let (k, hx, ha) = cell_range f x a t in
        let s : f * pairs + (x * sites + a) ≡ form * pairs + (m * sites + from) = sym (cell_in f x a k hx ha) ∙ e ∙ cell_in form m from h hm hf in
        and_intro (eqb f form) (eqb x m && eqb a from) (eq-eqb f form (omega arith))
        (and_intro (eqb x m) (eqb a from) (eq-eqb x m (omega arith)) (eq-eqb a from (omega arith)))
    equal (inr g) e = absurd (omega (arith, cell_out f x a g, cell_below form m from h hm hf))

    ahead : eqb (cell_at f x a) (cell_at form m from) ≡ true → same_cell f x a form m from ≡ true
    ahead t = equal (test (is_cell f x a)) (eqb-true (cell_at f x a) (cell_at form m from) t)

    back : same_cell f x a form m from ≡ true → eqb (cell_at f x a) (cell_at form m from) ≡ true
    back t =
        let (e, g, i) = same_cell_lem f x a form m from t in
        rw (e, g, i) (eq-eqb (cell_at form m from) (cell_at form m from) refl)
