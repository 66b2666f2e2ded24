-- Laws of the arrays of receivers and of GOODs: which messages and GOODs they hold once receivers were sent to or one was taken out, receivers
-- sent to one after the other, and that an array of n masks keeps its shape, Bytes n. Rests on Flights and CellLaws. Assumes nothing.
use Prim.Native.Nat.{ℕ, zero, suc, ◌^◌, ◌<◌, ◌≤◌}
use mathlib.Core.Path.{◌≡◌, refl, sym, ap, ◌∙◌}
use mathlib.Core.Logic.{inl, inr, ◌≢◌}
use mathlib.Core.Bool.{Bool, true, false, cond, not, ◌&&◌, ◌||◌, or-false, and-true, and_assoc, and-or_distrib_left}
use mathlib.Core.List.{List}
use native.Mathlib.Omega.{arith}
use native.Mathlib.Nat.{sub-zero}
use native.Mathlib.Decide.{ℕ_discrete, dec_lt}
use lib.Dec.{eqb, ltb, lit<}
use lib.ListN.{length, get_or, set, replicate, length-set, length-replicate, get_or-eq_default}
use lib.Seq.{get_or-set_same, get_or-set_other, set_out, set-set, set-get_or}
use lib.Bits.{bit_or, or_lt, or_zero_r, and_zero_r}
use borrow.Author.Tests.{eq-eqb, ne_eqb, ltb-true, lt-ltb, eqb-true, eqb-false}
use Rattle.sets.specs.Masks.{has_bit}
use Rattle.sets.proofs.MaskLaws.{has_bit_or, has_bit_pow}
use Rattle.sets.proofs.Truth.{test, never, and_left, and_right, and_implied, not_so}
use Rattle.sets.specs.Sets.{capacity}
use Rattle.site.specs.Sites.{sites}
use Rattle.site.specs.Sends.{forms}
use Rattle.flight.specs.Flights.{pairs, cells, is_cell, pair_at, cell_at, read_at, write_at, receivers_in, message_in, good_in, less, sending_to, taking_from, saying}
use Rattle.flight.specs.Shapes.{Bytes}
use Rattle.flight.proofs.CellLaws.{bit_or_assoc, less_less, has_bit_less, same_cell, same_cell_lem, pair_below, pair_same, cell_range, range_cell, cell_below, cell_out, cell_same}

-- ---- shape

pub byte_small : {n : ℕ} (l : List ℕ) (i : ℕ) → Bytes n l → get_or l i 0 < 2 ^ 8
byte_small {n} l i s = elim (dec_lt i n) [
  | yes h ↦ s.small i h
  | no h ↦ let e : length l ≤ i = omega (arith, s.long) in rw (get_or-eq_default l 0 e) (lit< tt)
]

pub set_bytes : {n : ℕ} (l : List ℕ) (j v : ℕ) → Bytes n l → v < 2 ^ 8 → Bytes n (set l j v)
set_bytes {n} l j v s b = record { long = length-set l j v ∙ s.long; small = λ i h. each i h (ℕ_discrete i j) }
  where
    each : (i : ℕ) → i < n → Dec (i ≡ j) → get_or (set l j v) i 0 < 2 ^ 8
    each i h (yes e) = let k : j < length l = omega (arith, s.long) in rw (e, get_or-set_same l j v 0 k) b
    each i h (no d) = rw (get_or-set_other l j i v 0 d) (s.small i h)

-- what holds of a list and of it with a place set holds of it with a place of n set
pub write_keeps : (P : List ℕ → Type 0) (n : ℕ) (l : List ℕ) (i v : ℕ) → P l → P (set l i v) → P (write_at n l i v)
write_keeps P n l i v p q = elim (test (ltb i n)) [ inl t ↦ rw t q | inr f ↦ rw f p ]

pub write_bytes : {n : ℕ} (l : List ℕ) (i v : ℕ) → Bytes n l → v < 2 ^ 8 → Bytes n (write_at n l i v)
write_bytes {n} l i v s h = write_keeps (Bytes n) n l i v s (set_bytes l i v s h)

pub read_small : {n : ℕ} (l : List ℕ) (i : ℕ) → Bytes n l → read_at n l i < 2 ^ 8
read_small {n} l i s = elim (test (ltb i n)) [ inl t ↦ rw t (byte_small l i s) | inr f ↦ rw f (lit< tt) ]

pub zero_at : (n i : ℕ) → ◌≡◌ {A = ℕ} (get_or (replicate n 0) i 0) 0
zero_at zero i = refl
zero_at (suc n) zero = refl
zero_at (suc n) (suc i) = zero_at n i

pub read_zero : (n i : ℕ) → read_at n (replicate n 0) i ≡ 0
read_zero n i = elim (test (ltb i n)) [ inl t ↦ rw t (zero_at n i) | inr f ↦ rw f ]

pub zero_bytes : (n : ℕ) → Bytes n (replicate n 0)
zero_bytes n = record { long = length-replicate {A = ℕ} n 0; small = λ i h. rw (zero_at n i) (lit< tt) }

module _ (masks : List ℕ) (s : Bytes cells masks) (form m from : ℕ) where
  pub sending_bytes : (receivers : ℕ) → receivers < 2 ^ 8 → Bytes cells (sending_to masks form m from receivers)
  unfolding sending_to
  sending_bytes receivers h =
      write_bytes masks (cell_at form m from) _ s
      (or_lt 8 (receivers_in masks form m from) receivers (byte_small masks (cell_at form m from) s) h)

  pub taking_bytes : (to : ℕ) → Bytes cells (taking_from masks form m from to)
  unfolding taking_from
  taking_bytes to =
      let b : less (receivers_in masks form m from) (2 ^ to) < 2 ^ 8 = omega (arith, byte_small masks (cell_at form m from) s) in
      write_bytes masks (cell_at form m from) _ s b

pub clearing_bytes : (good : List ℕ) → Bytes pairs good → (m from receivers : ℕ) → Bytes pairs (saying good m from receivers false)
unfolding saying
clearing_bytes good s m from receivers =
    let b : less (good_in good m from) receivers < 2 ^ 8 = omega (arith, read_small good (pair_at m from) s) in
    write_bytes good (pair_at m from) _ s b

pub saying_bytes : (good : List ℕ) → Bytes pairs good → (m from receivers : ℕ) (so : Bool) → receivers < 2 ^ 8 → Bytes pairs (saying good m from receivers so)
unfolding saying
saying_bytes good s m from receivers true h =
    write_bytes good (pair_at m from) _ s (or_lt 8 (good_in good m from) receivers (read_small good (pair_at m from) s) h)
saying_bytes good s m from receivers false h = clearing_bytes good s m from receivers

-- ---- messages

-- a message in flight is in range
pub message_range :
    (masks : List ℕ) (form m from to : ℕ) → message_in masks form m from to ≡ true → (form < forms) × (m < capacity) × (from < sites) × (to < sites)
unfolding message_in
message_range masks form m from to t =
    let bit = has_bit (receivers_in masks form m from) to in
    let (h, hm, hf) = cell_range form m from (and_left (is_cell form m from) (ltb to sites && bit) t) in
    (h, hm, hf, ltb-true to sites (and_left (ltb to sites) bit (and_right (is_cell form m from) (ltb to sites && bit) t)))

module _ (masks : List ℕ) (long : length masks ≡ cells) where
  -- one cell set
  message_set :
      (form m from mask : ℕ) → form < forms → m < capacity → from < sites → (f x a b : ℕ)
      → message_in (set masks (cell_at form m from) mask) f x a b
      ≡ cond (same_cell f x a form m from) (ltb b sites && has_bit mask b) (message_in masks f x a b)
  unfolding message_in
  message_set form m from mask h hm hf f x a b = elim (test (same_cell f x a form m from)) [
    | inl t ↦
        let (e, g, i) = same_cell_lem f x a form m from t in
        let l : cell_at form m from < length masks = omega (arith, cell_below form m from h hm hf) in
        rw (t, e, g, i, range_cell form m from h hm hf, get_or-set_same masks (cell_at form m from) mask 0 l)
    | inr n ↦
        let d : cell_at f x a ≢ cell_at form m from = eqb-false (cell_at f x a) (cell_at form m from) (cell_same f x a form m from h hm hf ∙ n) in
        rw (n, get_or-set_other masks (cell_at form m from) (cell_at f x a) mask 0 d)
  ]

  -- receivers sent to
  pub message_sent :
      (form m from receivers : ℕ) → form < forms → m < capacity → from < sites → (f x a b : ℕ)
      → message_in (sending_to masks form m from receivers) f x a b
      ≡ (message_in masks f x a b || same_cell f x a form m from && (ltb b sites && has_bit receivers b))
  unfolding sending_to
  message_sent form m from receivers h hm hf f x a b =
      ap (λ (t : Bool). message_in (cond t (set masks (cell_at form m from) (bit_or (receivers_in masks form m from) receivers)) masks) f x a b)
      (lt-ltb (cell_at form m from) cells (cell_below form m from h hm hf))
      ∙ message_set form m from (bit_or (receivers_in masks form m from) receivers) h hm hf f x a b
      ∙ elim (test (same_cell f x a form m from)) [
        | inl t ↦
            let (e, g, i) = same_cell_lem f x a form m from t in
            let old = has_bit (receivers_in masks form m from) b in
            rw (t, e, g, i) (unfold message_in in
            rw (range_cell form m from h hm hf, has_bit_or (receivers_in masks form m from) receivers b)
            (and-or_distrib_left (ltb b sites) old (has_bit receivers b)))
        | inr n ↦ rw n (sym (or-false (message_in masks f x a b)))
      ]

  -- a receiver taken out
  pub message_taken :
      (form m from to f x a b : ℕ)
      → message_in (taking_from masks form m from to) f x a b ≡ (message_in masks f x a b && not (same_cell f x a form m from && eqb b to))
  unfolding taking_from
  message_taken form m from to f x a b = elim (test (is_cell form m from)) [
    | inl c ↦
        let (h, hm, hf) = cell_range form m from c in
        ap (λ (t : Bool). message_in (cond t (set masks (cell_at form m from) (less (receivers_in masks form m from) (2 ^ to))) masks) f x a b)
        (lt-ltb (cell_at form m from) cells (cell_below form m from h hm hf))
        ∙ message_set form m from (less (receivers_in masks form m from) (2 ^ to)) h hm hf f x a b ∙ within c
    | inr c ↦
        rw (cell_out form m from c) (sym (outside c))
  ]
    where
      within : is_cell form m from ≡ true → cond (same_cell f x a form m from) (ltb b sites && has_bit (less (receivers_in masks form m from) (2 ^ to)) b) (message_in masks f x a b)
          ≡ (message_in masks f x a b && not (same_cell f x a form m from && eqb b to))
      within c = elim (test (same_cell f x a form m from)) [
        | inl t ↦
            let (e, g, i) = same_cell_lem f x a form m from t in
            let old = has_bit (receivers_in masks form m from) b in
            rw (t, e, g, i) (unfold message_in in
            rw (c, has_bit_less (receivers_in masks form m from) (2 ^ to) b, has_bit_pow to b)
            (sym (and_assoc (ltb b sites) old (not (eqb b to)))))
        | inr n ↦ rw n (sym (and-true (message_in masks f x a b)))
      ]

      outside : is_cell form m from ≡ false → (message_in masks f x a b && not (same_cell f x a form m from && eqb b to)) ≡ message_in masks f x a b
      outside c =
          and_implied (message_in masks f x a b) (not (same_cell f x a form m from && eqb b to))
          (λ t. ap not (not_so (same_cell f x a form m from && eqb b to) (λ s.
          let (e, g, i) = same_cell_lem f x a form m from (and_left (same_cell f x a form m from) (eqb b to) s) in
          let (h, hm, hf, _) = message_range masks f x a b t in
          never (rw (e, g, i) at (range_cell f x a h hm hf)) c)))

-- ---- GOODs

read_write : {n : ℕ} (l : List ℕ) → length l ≡ n → (i j v : ℕ) → i < n → read_at n (write_at n l i v) j ≡ cond (eqb j i) v (read_at n l j)
read_write {n} l long i j v h = rw (lt-ltb i n h) (elim (ℕ_discrete j i) [
  | yes e ↦ rw (e, lt-ltb i n h, eq-eqb i i refl) (get_or-set_same l i v 0 (omega arith))
  | no d ↦ rw (ne_eqb j i d, get_or-set_other l i j v 0 d)
])

module _ (good : List ℕ) (long : length good ≡ pairs) where
  -- receivers told: the new verdict is theirs, the others keep theirs
  pub good_said :
      (m from receivers : ℕ) (so : Bool) → m < capacity → from < sites → (x a b : ℕ)
      → has_bit (good_in (saying good m from receivers so) x a) b
      ≡ cond (eqb x m && eqb a from && has_bit receivers b) so (has_bit (good_in good x a) b)
  unfolding saying
  good_said m from receivers so hm hf x a b =
      let new = cond so (bit_or (good_in good m from) receivers) (less (good_in good m from) receivers) in
      ap (λ (w : ℕ). has_bit w b) (read_write good long (pair_at m from) (pair_at x a) new (pair_below m from hm hf))
      ∙ ap (λ (t : Bool). has_bit (cond t new (good_in good x a)) b) (pair_same x a m from hm hf)
      ∙ elim (test (eqb x m && eqb a from)) [
        | inl t ↦
            let e : x ≡ m = eqb-true x m (and_left (eqb x m) (eqb a from) t) in
            let g : a ≡ from = eqb-true a from (and_right (eqb x m) (eqb a from) t) in
            rw (t, e, g) (told so (good_in good m from))
        | inr n ↦ rw n
      ]
    where
      told : (v : Bool) (w : ℕ) → has_bit (cond v (bit_or w receivers) (less w receivers)) b ≡ cond (has_bit receivers b) v (has_bit w b)
      told true w = has_bit_or w receivers b ∙ joined (has_bit w b) (has_bit receivers b)
        where
          joined : (u r : Bool) → (u || r) ≡ cond r true u
          joined true true = refl
          joined true false = refl
          joined false true = refl
          joined false false = refl
      told false w = has_bit_less w receivers b ∙ cleared (has_bit w b) (has_bit receivers b)
        where
          cleared : (u r : Bool) → (u && not r) ≡ cond r false u
          cleared true true = refl
          cleared true false = refl
          cleared false true = refl
          cleared false false = refl

-- ---- the same sent twice

-- a place set, and set again by what stands there
set_twice : (l : List ℕ) (i v : ℕ) (f : ℕ → ℕ) → set (set l i v) i (f (get_or (set l i v) i 0)) ≡ set l i (f v)
set_twice l i v f = elim (dec_lt i (length l)) [
  | yes h ↦ rw (get_or-set_same l i v 0 h) (set-set l i v (f v))
  | no h ↦
      let b : length l ≤ i = omega arith in
      rw (set_out l i v b) (set_out l i (f (get_or l i 0)) b ∙ sym (set_out l i (f v) b))
]

write_same : (n : ℕ) (l : List ℕ) (i : ℕ) → write_at n l i (get_or l i 0) ≡ l
write_same n l i = elim (test (ltb i n)) [ inl t ↦ rw t (set-get_or l i 0) | inr f ↦ rw f ]

write_read : (n : ℕ) (l : List ℕ) (i : ℕ) → write_at n l i (read_at n l i) ≡ l
write_read n l i = elim (test (ltb i n)) [ inl t ↦ rw t (set-get_or l i 0) | inr f ↦ rw f ]

write_twice : (n : ℕ) (l : List ℕ) (i v : ℕ) (f : ℕ → ℕ) → write_at n (write_at n l i v) i (f (get_or (write_at n l i v) i 0)) ≡ write_at n l i (f v)
write_twice n l i v f = elim (test (ltb i n)) [ inl t ↦ rw t (set_twice l i v f) | inr e ↦ rw e ]

write_read_twice : (n : ℕ) (l : List ℕ) (i v : ℕ) (f : ℕ → ℕ) → write_at n (write_at n l i v) i (f (read_at n (write_at n l i v) i)) ≡ write_at n l i (f v)
write_read_twice n l i v f = elim (test (ltb i n)) [ inl t ↦ rw t (set_twice l i v f) | inr e ↦ rw e ]

pub sending_none : (masks : List ℕ) (form m from : ℕ) → sending_to masks form m from 0 ≡ masks
unfolding sending_to
sending_none masks form m from = rw (or_zero_r (receivers_in masks form m from)) (write_same cells masks (cell_at form m from))

pub saying_none : (good : List ℕ) (m from : ℕ) (so : Bool) → saying good m from 0 so ≡ good
unfolding saying
saying_none good m from true = rw (or_zero_r (good_in good m from)) (write_read pairs good (pair_at m from))
saying_none good m from false = rw (and_zero_r (good_in good m from), sub-zero (good_in good m from)) (write_read pairs good (pair_at m from))

pub sending_twice :
    (masks : List ℕ) (form m from r q : ℕ) → sending_to (sending_to masks form m from r) form m from q ≡ sending_to masks form m from (bit_or r q)
unfolding sending_to
sending_twice masks form m from r q =
    let i = cell_at form m from in
    write_twice cells masks i (bit_or (get_or masks i 0) r) (λ w. bit_or w q) ∙ ap (write_at cells masks i) (bit_or_assoc (get_or masks i 0) r q)

pub saying_twice :
    (good : List ℕ) (m from : ℕ) (so : Bool) (r q : ℕ) → saying (saying good m from r so) m from q so ≡ saying good m from (bit_or r q) so
unfolding saying
saying_twice good m from true r q =
    let i = pair_at m from in
    write_read_twice pairs good i (bit_or (read_at pairs good i) r) (λ w. bit_or w q) ∙ ap (write_at pairs good i) (bit_or_assoc (read_at pairs good i) r q)
saying_twice good m from false r q =
    let i = pair_at m from in
    write_read_twice pairs good i (less (read_at pairs good i) r) (λ w. less w q) ∙ ap (write_at pairs good i) (less_less (read_at pairs good i) r q)
