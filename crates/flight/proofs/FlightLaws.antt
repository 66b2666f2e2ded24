-- Laws of a flight: what is in flight, which GOODs and which sets, once a mask of receivers or a single send was sent, once a message was taken
-- out, and where nothing is; each keeps the shape. Rests on Flights, ArrayLaws and CarriedLaws. Assumes nothing.
use Prim.Native.Nat.{ℕ, ◌*◌, ◌^◌, ◌<◌}
use mathlib.Core.Path.{◌≡◌, refl, ap, ◌∙◌}
use mathlib.Core.Logic.{inl, inr}
use mathlib.Core.Bool.{Bool, true, false, cond, not, ◌&&◌, ◌||◌, and-false, and_comm}
use native.Mathlib.Omega.{arith}
use lib.Dec.{eqb, ltb, lit<}
use lib.Pow.{pow-lt, pow_pos}
use borrow.Author.Tests.{ne_eqb, eqb-true, lt-ltb}
use Rattle.sets.specs.declared.Set.{Set}
use Rattle.sets.specs.Masks.{has_bit}
use Rattle.sets.proofs.MaskLaws.{has_bit_zero, has_bit_pow}
use Rattle.sets.proofs.Truth.{test, and_implied}
use Rattle.sets.specs.Words.{Words}
use Rattle.sets.proofs.WordLaws.{empty_shape}
use Rattle.sets.specs.Sets.{words, capacity, empty_set, Shape as SetShape}
use Rattle.site.specs.Sites.{sites}
use Rattle.site.specs.Sends.{FIRST, SECOND, THIRD, DELIVER, forms, Send, first, second, third, deliver, entry}
use Rattle.flight.specs.declared.Flight.{Flight}
use Rattle.flight.specs.Flights.{pairs, cells, is_cell, pair_at, cell_at, in_flight, good_to, carried_by, message_in, saying, carrying, sending, taking_out, empty_flight}
use Rattle.flight.specs.Shapes.{Bytes, Shape}
use Rattle.flight.specs.ByMask.{sending_mask}
use Rattle.flight.proofs.CellLaws.{same_cell}
use Rattle.flight.proofs.ArrayLaws.{zero_at, read_zero, zero_bytes, sending_bytes, taking_bytes, clearing_bytes, saying_bytes, message_range, message_sent, message_taken, good_said, sending_none}
use Rattle.flight.proofs.CarriedLaws.{carrying_words, set_carried, zero_set}

-- a message in flight is in range
pub in_flight_range :
    (flight : Flight) (f x a b : ℕ) → in_flight flight f x a b ≡ true → (f < forms) × (x < capacity) × (a < sites) × (b < sites)
unfolding in_flight
in_flight_range flight f x a b t = message_range flight.masks f x a b t

-- ---- a mask of receivers

module _ (flight : Flight) (s : Shape flight) (from form m receivers : ℕ) (so : Bool) (load : Set) where
  pub mask_shape : receivers < 2 ^ 8 → SetShape load → Shape (sending_mask flight from form m receivers so load)
  unfolding sending_mask
  mask_shape h t =
      record {
        masks = sending_bytes flight.masks s.masks form m from receivers h;
        good = told (eqb form SECOND);
        carried = carries (eqb form THIRD && not (eqb receivers 0));
      }
    where
      told : (b : Bool) → Bytes pairs (cond b (saying flight.good m from receivers so) flight.good)
      told true = saying_bytes flight.good s.good m from receivers so h
      told false = s.good

      carries : (b : Bool) → Words (words * pairs) (cond b (carrying flight.carried m from load) flight.carried)
      carries true = carrying_words flight.carried s.carried m from load t
      carries false = s.carried

  module _ (hf : from < sites) (hm : m < capacity) where
    pub mask_in_flight :
        form < forms → (f x a b : ℕ)
        → in_flight (sending_mask flight from form m receivers so load) f x a b
        ≡ (in_flight flight f x a b || same_cell f x a form m from && (ltb b sites && has_bit receivers b))
    unfolding in_flight sending_mask
    mask_in_flight h f x a b = message_sent flight.masks s.masks.long form m from receivers h hm hf f x a b

    pub mask_good :
        (x a b : ℕ)
        → has_bit (good_to (sending_mask flight from form m receivers so load) x a) b
        ≡ cond (eqb form SECOND && (eqb x m && eqb a from && has_bit receivers b)) so (has_bit (good_to flight x a) b)
    unfolding sending_mask
    mask_good x a b = elim (test (eqb form SECOND)) [
      | inl t ↦ rw t (good_said flight.good s.good.long m from receivers so hm hf x a b)
      | inr n ↦ rw n
    ]

    pub mask_carried :
        SetShape load → (x a : ℕ)
        → carried_by (sending_mask flight from form m receivers so load) x a
        ≡ cond (eqb form THIRD && not (eqb receivers 0) && (eqb x m && eqb a from)) load (carried_by flight x a)
    unfolding sending_mask
    mask_carried t x a = elim (test (eqb form THIRD && not (eqb receivers 0))) [
      | inl e ↦ rw e (set_carried flight.carried s.carried.long m from load hm hf t.long x a)
      | inr n ↦ rw n
    ]

-- ---- a single send

-- what a send is as a mask of receivers; a pool entry is to none
pub record Parts : Type 0 where
  pub form : ℕ
  pub posting : ℕ
  pub receivers : ℕ
  pub verdict : Bool
  pub load : Set

abbrev parts : ℕ → ℕ → ℕ → Bool → Set → Parts
parts form m receivers verdict load = record { form = form; posting = m; receivers = receivers; verdict = verdict; load = load }

abbrev pub parts_of : Send → Parts
parts_of (first m to) = parts FIRST m (2 ^ to) false empty_set
parts_of (second m to good) = parts SECOND m (2 ^ to) good empty_set
parts_of (third m to carried) = parts THIRD m (2 ^ to) false carried
parts_of (deliver m to) = parts DELIVER m (2 ^ to) false empty_set
parts_of (entry m carried) = parts FIRST m 0 false empty_set

-- the verdict of a SECOND, and the set of a THIRD
abbrev pub verdict_of : Send → Bool
verdict_of send = (parts_of send).verdict

abbrev pub load_of : Send → Set
load_of send = (parts_of send).load

-- a message of this form and posting, to this site
abbrev pub is_message : ℕ → ℕ → ℕ → ℕ → ℕ → ℕ → Bool
is_message form m to f x b = eqb f form && (eqb x m && eqb b to)

-- a send is such a message
unfoldable pub sends : Send → ℕ → ℕ → ℕ → Bool
sends (first m to) f x b = is_message FIRST m to f x b
sends (second m to good) f x b = is_message SECOND m to f x b
sends (third m to carried) f x b = is_message THIRD m to f x b
sends (deliver m to) f x b = is_message DELIVER m to f x b
sends (entry m carried) f x b = false

-- a send is a THIRD about this posting
unfoldable pub is_third : Send → ℕ → Bool
is_third (first m to) x = false
is_third (second m to good) x = false
is_third (third m to carried) x = eqb x m
is_third (deliver m to) x = false
is_third (entry m carried) x = false

-- a send of a posting and to a site that there is room for, with a set of the right shape
abbrev pub Fits : Send → Type 0
Fits (first m to) = (m < capacity) × (to < sites)
Fits (second m to good) = (m < capacity) × (to < sites)
Fits (third m to carried) = (m < capacity) × (to < sites) × SetShape carried
Fits (deliver m to) = (m < capacity) × (to < sites)
Fits (entry m carried) = m < capacity

pub send_mask :
    (flight : Flight) (from : ℕ) (send : Send)
    → sending flight from send
    ≡ sending_mask flight from (parts_of send).form (parts_of send).posting (parts_of send).receivers (parts_of send).verdict (parts_of send).load
unfolding sending sending_mask
send_mask flight from (first m to) = refl
send_mask flight from (second m to good) = refl
send_mask flight from (third m to carried) = rw (ne_eqb (2 ^ to) 0 (omega (arith, pow_pos to)))
send_mask flight from (deliver m to) = refl
send_mask flight from (entry m carried) = rw (sending_none flight.masks FIRST m from)

parts_fit : (send : Send) → Fits send → ((parts_of send).form < forms) × ((parts_of send).posting < capacity) × ((parts_of send).receivers < 2 ^ 8) × SetShape (parts_of send).load
parts_fit (first m to) h = (lit< tt, h.0, pow-lt {j = 8} (omega arith), empty_shape words)
parts_fit (second m to good) h = (lit< tt, h.0, pow-lt {j = 8} (omega arith), empty_shape words)
parts_fit (third m to carried) h = (lit< tt, h.0, pow-lt {j = 8} (omega arith), h.2)
parts_fit (deliver m to) h = (lit< tt, h.0, pow-lt {j = 8} (omega arith), empty_shape words)
parts_fit (entry m carried) h = (lit< tt, h, lit< tt, empty_shape words)

swap : (p q r t : Bool) → (p && (q && r) && t) ≡ (p && (q && t) && r)
swap true true r t = and_comm r t
swap true false r t = refl
swap false q r t = refl

-- the messages of a mask with one receiver
mask_message :
    (form m to from : ℕ) → to < sites → (f x a b : ℕ)
    → (same_cell f x a form m from && (ltb b sites && has_bit (2 ^ to) b)) ≡ (is_message form m to f x b && eqb a from)
mask_message form m to from h f x a b =
    ap (λ (t : Bool). same_cell f x a form m from && t)
    (ap (λ (t : Bool). ltb b sites && t) (has_bit_pow to b) ∙ and_comm (ltb b sites) (eqb b to) ∙ and_implied (eqb b to) (ltb b sites) below)
    ∙ swap (eqb f form) (eqb x m) (eqb a from) (eqb b to)
  where
    below : eqb b to ≡ true → ltb b sites ≡ true
    below t = lt-ltb b sites (omega (arith, eqb-true b to t))

sends_mask :
    (send : Send) → Fits send → (from f x a b : ℕ)
    → (same_cell f x a (parts_of send).form (parts_of send).posting from && (ltb b sites && has_bit (parts_of send).receivers b)) ≡ (sends send f x b && eqb a from)
unfolding sends
sends_mask (first m to) h from f x a b = mask_message FIRST m to from h.1 f x a b
sends_mask (second m to good) h from f x a b = mask_message SECOND m to from h.1 f x a b
sends_mask (third m to carried) h from f x a b = mask_message THIRD m to from h.1 f x a b
sends_mask (deliver m to) h from f x a b = mask_message DELIVER m to from h.1 f x a b
sends_mask (entry m carried) h from f x a b =
    rw (has_bit_zero b, and-false (ltb b sites)) (and-false (same_cell f x a FIRST m from))

says_mask :
    (send : Send) (from x a b : ℕ)
    → (eqb (parts_of send).form SECOND && (eqb x (parts_of send).posting && eqb a from && has_bit (parts_of send).receivers b)) ≡ (sends send SECOND x b && eqb a from)
unfolding sends
says_mask (first m to) from x a b = refl
says_mask (second m to good) from x a b = ap (λ (t : Bool). eqb x m && eqb a from && t) (has_bit_pow to b) ∙ swap true (eqb x m) (eqb a from) (eqb b to)
says_mask (third m to carried) from x a b = refl
says_mask (deliver m to) from x a b = refl
says_mask (entry m carried) from x a b = refl

third_mask :
    (send : Send) (from x a : ℕ)
    → (eqb (parts_of send).form THIRD && not (eqb (parts_of send).receivers 0) && (eqb x (parts_of send).posting && eqb a from)) ≡ (is_third send x && eqb a from)
unfolding is_third
third_mask (first m to) from x a = refl
third_mask (second m to good) from x a = refl
third_mask (third m to carried) from x a = rw (ne_eqb (2 ^ to) 0 (omega (arith, pow_pos to)))
third_mask (deliver m to) from x a = refl
third_mask (entry m carried) from x a = refl

module _ (flight : Flight) (s : Shape flight) (from : ℕ) (hf : from < sites) (send : Send) (fits : Fits send) where
  pub sending_shape : Shape (sending flight from send)
  sending_shape =
      let p = parts_of send in
      let (h, hm, r, t) = parts_fit send fits in
      rw (send_mask flight from send) (mask_shape flight s from p.form p.posting p.receivers p.verdict p.load r t)

  -- what was in flight, and what was sent
  pub sending_in_flight : (f x a b : ℕ) → in_flight (sending flight from send) f x a b ≡ (in_flight flight f x a b || sends send f x b && eqb a from)
  sending_in_flight f x a b =
      let p = parts_of send in
      let (h, hm, r, t) = parts_fit send fits in
      ap (λ (g : Flight). in_flight g f x a b) (send_mask flight from send)
      ∙ mask_in_flight flight s from p.form p.posting p.receivers p.verdict p.load hf hm h f x a b
      ∙ ap (λ (new : Bool). in_flight flight f x a b || new) (sends_mask send fits from f x a b)

  -- a SECOND brings its verdict
  pub sending_good :
      (x a b : ℕ) → has_bit (good_to (sending flight from send) x a) b ≡ cond (sends send SECOND x b && eqb a from) (verdict_of send) (has_bit (good_to flight x a) b)
  sending_good x a b =
      let p = parts_of send in
      let (h, hm, r, t) = parts_fit send fits in
      ap (λ (g : Flight). has_bit (good_to g x a) b) (send_mask flight from send)
      ∙ mask_good flight s from p.form p.posting p.receivers p.verdict p.load hf hm x a b
      ∙ ap (λ (new : Bool). cond new (verdict_of send) (has_bit (good_to flight x a) b)) (says_mask send from x a b)

  -- a THIRD brings its set
  pub sending_carried : (x a : ℕ) → carried_by (sending flight from send) x a ≡ cond (is_third send x && eqb a from) (load_of send) (carried_by flight x a)
  sending_carried x a =
      let p = parts_of send in
      let (h, hm, r, t) = parts_fit send fits in
      ap (λ (g : Flight). carried_by g x a) (send_mask flight from send)
      ∙ mask_carried flight s from p.form p.posting p.receivers p.verdict p.load hf hm t x a
      ∙ ap (λ (new : Bool). cond new (load_of send) (carried_by flight x a)) (third_mask send from x a)

-- ---- a message taken out

module _ (flight : Flight) (s : Shape flight) (form m from to : ℕ) where
  pub taking_shape : Shape (taking_out flight form m from to)
  unfolding taking_out
  taking_shape =
      record {
        masks = taking_bytes flight.masks s.masks form m from to;
        good = told (eqb form SECOND);
        carried = kept (eqb form THIRD);
      }
    where
      told : (b : Bool) → Bytes pairs (cond b (saying flight.good m from (2 ^ to) false) flight.good)
      told true = clearing_bytes flight.good s.good m from (2 ^ to)
      told false = s.good

      kept : (b : Bool) → Words (words * pairs) (cond b (carrying flight.carried m from empty_set) flight.carried)
      kept true = carrying_words flight.carried s.carried m from empty_set (empty_shape words)
      kept false = s.carried

  pub taking_in_flight :
      (f x a b : ℕ) → in_flight (taking_out flight form m from to) f x a b ≡ (in_flight flight f x a b && not (same_cell f x a form m from && eqb b to))
  unfolding in_flight taking_out
  taking_in_flight f x a b = message_taken flight.masks s.masks.long form m from to f x a b

  module _ (hm : m < capacity) (hf : from < sites) where
    -- a SECOND's GOOD goes with it
    pub taking_good :
        (x a b : ℕ)
        → has_bit (good_to (taking_out flight form m from to) x a) b
        ≡ cond (eqb form SECOND && (eqb x m && eqb a from && eqb b to)) false (has_bit (good_to flight x a) b)
    unfolding taking_out
    taking_good x a b = elim (test (eqb form SECOND)) [
      | inl t ↦ rw t (good_said flight.good s.good.long m from (2 ^ to) false hm hf x a b ∙ rw (has_bit_pow to b))
      | inr n ↦ rw n
    ]

    -- a THIRD's set goes with it
    pub taking_carried :
        (x a : ℕ) → carried_by (taking_out flight form m from to) x a ≡ cond (eqb form THIRD && (eqb x m && eqb a from)) empty_set (carried_by flight x a)
    unfolding taking_out
    taking_carried x a = elim (test (eqb form THIRD)) [
      | inl t ↦ rw t (set_carried flight.carried s.carried.long m from empty_set hm hf (empty_shape words).long x a)
      | inr n ↦ rw n
    ]

-- ---- nothing in flight

pub empty_flight_shape : Shape empty_flight
empty_flight_shape =
    record { masks = zero_bytes cells; good = zero_bytes pairs; carried = empty_shape (words * pairs) }

pub empty_in_flight : (f x a b : ℕ) → in_flight empty_flight f x a b ≡ false
unfolding in_flight message_in
empty_in_flight f x a b =
    rw (zero_at cells (cell_at f x a), has_bit_zero b, and-false (ltb b sites)) (and-false (is_cell f x a))

pub empty_good : (x a b : ℕ) → has_bit (good_to empty_flight x a) b ≡ false
empty_good x a b = rw (read_zero pairs (pair_at x a)) (has_bit_zero b)

pub empty_carried : (x a : ℕ) → carried_by empty_flight x a ≡ empty_set
empty_carried x a = zero_set (words * pairs) x a
