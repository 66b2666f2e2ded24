-- What is in flight stays sound when the sends of a step go out and when a message is taken out.
-- Rests on StepSound and flight's laws. Assumes nothing.
use Prim.Native.Nat.{ℕ, ◌-◌, ◌^◌, ◌<◌, ◌≤◌}
use mathlib.Core.Path.{◌≡◌, refl, sym, ap, ◌∙◌}
use mathlib.Core.Logic.{◌⊎◌, inl, inr}
use mathlib.Core.Bool.{Bool, true, false, cond, not, ◌&&◌, ◌||◌}
use mathlib.Core.List.{List, [], ◌∷◌}
use native.Mathlib.Omega.{arith}
use native.Mathlib.Decide.{ℕ_discrete, dec_lt}
use lib.Dec.{eqb, ltb}
use lib.ListN.{length, get_or, set, length-set}
use lib.Seq.{get_or-set_same, get_or-set_other, set_out}
use lib.Bits.{bit_or, bit_and, or_lt}
use lib.Pow.{pow-lt, pow_pos}
use borrow.Author.Tests.{eqb-true, eq-eqb, ltb-true, lt-ltb}
use Rattle.sets.specs.declared.Set.{Set}
use Rattle.sets.proofs.Truth.{test, never, not_so, and_left, and_right, and_intro, or_cases}
use Rattle.sets.specs.Masks.{has_bit}
use Rattle.sets.proofs.MaskLaws.{has_bit_above}
use Rattle.sets.proofs.WordLaws.{empty_shape, member_empty}
use Rattle.sets.specs.Sets.{words, capacity, has, empty_set}
use Rattle.posting.specs.declared.Table.{Table}
use Rattle.posting.specs.Conflicts.{offered}
use Rattle.posting.proofs.ConflictLaws.{offered_below}
use Rattle.site.specs.declared.Site.{Site}
use Rattle.site.specs.Sites.{sites}
use Rattle.site.specs.Sends.{FIRST, SECOND, THIRD, DELIVER, forms, Send, first, second, third, deliver, entry}
use Rattle.site.specs.Steps.{owner_of}
use Rattle.flight.specs.declared.Flight.{Flight}
use Rattle.flight.proofs.ArrayLaws.{write_keeps}
use Rattle.flight.specs.Flights.{receivers_in, message_in, is_cell, in_flight, cell_at, carried_by, less, sending_to, taking_from, sending, sending_all, taking_out, cells, write_at}
use Rattle.flight.specs.Shapes.{Shape}
use Rattle.flight.proofs.CellLaws.{cell_range, range_cell, same_cell}
use Rattle.flight.proofs.FlightLaws.{Fits, sends, is_third, load_of, is_message, sending_shape, sending_in_flight, sending_carried, taking_shape, taking_in_flight, taking_carried}
use Rattle.machine.specs.declared.Board.{Board}
use Rattle.machine.proofs.SoundFacts.{Offers, CellSound}
use Rattle.invariants.proofs.StepSound.{SendSound, AllSends}

-- a message in flight
pub record MessageSound (t : Table) (n : ℕ) (flight : Flight) (form m from to : ℕ) : Type 0 where
  pub named : offered t m ≡ true
  pub sender : from < n
  pub to_owner : form ≡ THIRD → to ≡ owner_of t m
  pub carries : form ≡ THIRD → Offers t (carried_by flight m from)

pub record FlightSound (t : Table) (n : ℕ) (flight : Flight) : Type 0 where
  pub below : (k : ℕ) → get_or flight.masks k 0 < 2 ^ n
  pub each : (form m from to : ℕ) → in_flight flight form m from to ≡ true → MessageSound t n flight form m from to

-- ---- as the facts of Sound have it

pub in_cell : (flight : Flight) (form m from to : ℕ) → in_flight flight form m from to ≡ true → (is_cell form m from ≡ true) × (has_bit (receivers_in flight.masks form m from) to ≡ true)
unfolding in_flight message_in
in_cell flight form m from to h =
    let bit = has_bit (receivers_in flight.masks form m from) to in
    (and_left (is_cell form m from) (ltb to sites && bit) h, and_right (ltb to sites) bit (and_right (is_cell form m from) (ltb to sites && bit) h))

pub cell_in_flight : (flight : Flight) (form m from to : ℕ) → is_cell form m from ≡ true → to < sites → has_bit (receivers_in flight.masks form m from) to ≡ true → in_flight flight form m from to ≡ true
unfolding in_flight message_in
cell_in_flight flight form m from to c lt h = rw (c, lt-ltb to sites lt) h

-- a bit of a mask below 2 ^ n is below n
pub bit_below : (n mask to : ℕ) → mask < 2 ^ n → has_bit mask to ≡ true → to < n
bit_below n mask to lt h = elim (dec_lt to n) [ yes k ↦ k | no k ↦ absurd (never h (has_bit_above n mask to lt (omega arith))) ]

module _ (b : Board) where
  pub flight_facts : ((k : ℕ) → get_or b.flight.masks k 0 < 2 ^ b.setup.n) → ((form m from : ℕ) → form < forms → m < capacity → from < sites → CellSound b form m from)
      → FlightSound b.table b.setup.n b.flight
  flight_facts below each = record {
    below = below;
    each = λ form m from to h.
        let (c, k) = in_cell b.flight form m from to h in
        let (hform, hm, hf) = cell_range form m from c in
        let i = each form m from hform hm hf in
        record { named = i.named to k; sender = i.sender to k; to_owner = λ e. i.to_owner to k e; carries = λ e. i.carries to k e };
  }

  pub facts_flight : b.setup.n ≤ sites → FlightSound b.table b.setup.n b.flight → (form m from : ℕ) → form < forms → m < capacity → from < sites → CellSound b form m from
  facts_flight few i form m from hform hm hf =
      let in_flight_lem : (to : ℕ) → has_bit (receivers_in b.flight.masks form m from) to ≡ true → MessageSound b.table b.setup.n b.flight form m from to = λ to k.
      let lt = bit_below b.setup.n (receivers_in b.flight.masks form m from) to (i.below (cell_at form m from)) k in
      i.each form m from to (cell_in_flight b.flight form m from to (range_cell form m from hform hm hf) (omega arith) k) in
      record {
        below = i.below (cell_at form m from);
        named = λ to k. (in_flight_lem to k).named;
        sender = λ to k. (in_flight_lem to k).sender;
        to_owner = λ to k. (in_flight_lem to k).to_owner;
        carries = λ to k. (in_flight_lem to k).carries;
      }

-- ---- masks stay below 2 ^ n

set_below : (n : ℕ) (l : List ℕ) (i v : ℕ) → ((k : ℕ) → get_or l k 0 < 2 ^ n) → v < 2 ^ n → (k : ℕ) → get_or (set l i v) k 0 < 2 ^ n
set_below n l i v h hv k = elim (dec_lt i (length l)) [
  | yes lt ↦ elim (ℕ_discrete k i) [ yes e ↦ rw (e, get_or-set_same l i v 0 lt) hv | no d ↦ rw (get_or-set_other l i k v 0 d) (h k) ]
  | no out ↦ rw (set_out l i v (omega arith)) (h k)
]

write_below : (n : ℕ) (l : List ℕ) (i v : ℕ) → ((k : ℕ) → get_or l k 0 < 2 ^ n) → v < 2 ^ n → (k : ℕ) → get_or (write_at cells l i v) k 0 < 2 ^ n
write_below n l i v h hv = write_keeps (λ (r : List ℕ). (k : ℕ) → get_or r k 0 < 2 ^ n) cells l i v h (set_below n l i v h hv)

module _ (n : ℕ) (flight : Flight) (h : (k : ℕ) → get_or flight.masks k 0 < 2 ^ n) where
  sent_below : (form m from to : ℕ) → to < n → (k : ℕ) → get_or (sending_to flight.masks form m from (2 ^ to)) k 0 < 2 ^ n
  unfolding sending_to
  sent_below form m from to lt = write_below n flight.masks (cell_at form m from) _ h (or_lt n (receivers_in flight.masks form m from) (2 ^ to) (h (cell_at form m from)) (pow-lt lt))

  taken_below : (form m from to : ℕ) (k : ℕ) → get_or (taking_from flight.masks form m from to) k 0 < 2 ^ n
  unfolding taking_from
  taken_below form m from to = write_below n flight.masks (cell_at form m from) _ h (omega (arith, h (cell_at form m from)))

-- ---- one send

module _ (t : Table) (n : ℕ) (few : n ≤ sites) (p : ℕ) (lp : p < n) (before : Set) (site : Site) where
  pub fits : (send : Send) → SendSound t n p before site send → Fits send
  fits (first m to) h = ((offered_below t m h.0).1, omega (arith, h.1))
  fits (second m to good) h = ((offered_below t m h.0).1, omega (arith, h.1))
  fits (third m to carried) h = ((offered_below t m h.0).1, omega (arith, h.2), h.4)
  fits (deliver m to) h = ((offered_below t m h.0).1, omega (arith, h.1))
  fits (entry m carried) h = (offered_below t m h.0).1

  -- a message that was sent just now
  sent_named : (send : Send) (form m to : ℕ) → SendSound t n p before site send → sends send form m to ≡ true → offered t m ≡ true
  unfolding sends
  sent_named (first x y) form m to h k = rw (eqb-true m x (and_left (eqb m x) (eqb to y) (and_right (eqb form FIRST) (eqb m x && eqb to y) k))) h.0
  sent_named (second x y good) form m to h k = rw (eqb-true m x (and_left (eqb m x) (eqb to y) (and_right (eqb form SECOND) (eqb m x && eqb to y) k))) h.0
  sent_named (third x y carried) form m to h k = rw (eqb-true m x (and_left (eqb m x) (eqb to y) (and_right (eqb form THIRD) (eqb m x && eqb to y) k))) h.0
  sent_named (deliver x y) form m to h k = rw (eqb-true m x (and_left (eqb m x) (eqb to y) (and_right (eqb form DELIVER) (eqb m x && eqb to y) k))) h.0
  sent_named (entry x carried) form m to h k = absurd (never k refl)

  -- a THIRD that was sent just now
  sent_third : (send : Send) (m to : ℕ) → SendSound t n p before site send → sends send THIRD m to ≡ true → (to ≡ owner_of t m) × (is_third send m ≡ true) × Offers t (load_of send)
  unfolding sends is_third
  sent_third (first x y) m to h k = absurd (never k refl)
  sent_third (second x y good) m to h k = absurd (never k refl)
  sent_third (third x y carried) m to h k =
      let same = eqb-true m x (and_left (eqb m x) (eqb to y) k) in
      let there = eqb-true to y (and_right (eqb m x) (eqb to y) k) in
      (there ∙ rw same h.1, eq-eqb m x same, h.3)
  sent_third (deliver x y) m to h k = absurd (never k refl)
  sent_third (entry x carried) m to h k = absurd (never k refl)

  send_below : (flight : Flight) (send : Send) → SendSound t n p before site send → ((k : ℕ) → get_or flight.masks k 0 < 2 ^ n) → (k : ℕ) → get_or (sending flight p send).masks k 0 < 2 ^ n
  unfolding sending
  send_below flight (first m to) h i = sent_below n flight i FIRST m p to h.1
  send_below flight (second m to good) h i = sent_below n flight i SECOND m p to h.1
  send_below flight (third m to carried) h i = sent_below n flight i THIRD m p to h.2
  send_below flight (deliver m to) h i = sent_below n flight i DELIVER m p to h.1
  send_below flight (entry m carried) h i = i

  send_sound : (flight : Flight) (send : Send) → Shape flight → SendSound t n p before site send → FlightSound t n flight → FlightSound t n (sending flight p send)
  send_sound flight send shape h i = record {
    below = send_below flight send h i.below;
    each = λ form m from to k. elim (or_cases (in_flight flight form m from to) (sends send form m to && eqb from p) (sym (sending_in_flight flight shape p (omega arith) send (fits send h) form m from to) ∙ k)) [
      | inl o ↦ let old = i.each form m from to o in record {
        named = old.named;
        sender = old.sender;
        to_owner = old.to_owner;
        carries = λ e. loads m from (old.carries e);
      }
      | inr s ↦
          let sent = and_left (sends send form m to) (eqb from p) s in
          let mine = and_right (sends send form m to) (eqb from p) s in
          record {
            named = sent_named send form m to h sent;
            sender = rw (eqb-true from p mine) lp;
            to_owner = λ e. (sent_third send m to h (rw e at sent)).0;
            carries = λ e.
                let (own, is, offers) = sent_third send m to h (rw e at sent) in
                rw (sending_carried flight shape p (omega arith) send (fits send h) m from, is, mine) offers;
          }
    ];
  }
    where
      -- the set of an older THIRD, or the one that replaced it
      loads : (m from : ℕ) → Offers t (carried_by flight m from) → Offers t (carried_by (sending flight p send) m from)
      loads m from o = rw (sending_carried flight shape p (omega arith) send (fits send h) m from) (pick (is_third send m && eqb from p) refl)
        where
          load_ok : (s : Send) → SendSound t n p before site s → is_third s m ≡ true → Offers t (load_of s)
          load_ok (first x y) h k = absurd (never k (unfold is_third in refl))
          load_ok (second x y good) h k = absurd (never k (unfold is_third in refl))
          load_ok (third x y carried) h k = h.3
          load_ok (deliver x y) h k = absurd (never k (unfold is_third in refl))
          load_ok (entry x carried) h k = absurd (never k (unfold is_third in refl))

          pick : (c : Bool) → (is_third send m && eqb from p) ≡ c → Offers t (cond c (load_of send) (carried_by flight m from))
          pick true e = load_ok send h (and_left (is_third send m) (eqb from p) e)
          pick false e = o

  pub sends_shape : (flight : Flight) (l : List Send) → Shape flight → AllSends t n (SendSound t n p before site) l → Shape (sending_all flight p l)
  unfolding sending_all
  sends_shape flight [] shape h = shape
  sends_shape flight (s ∷ l) shape h = sends_shape (sending flight p s) l (sending_shape flight shape p (omega arith) s (fits s h.0)) h.1

  pub sends_sound : (flight : Flight) (l : List Send) → Shape flight → AllSends t n (SendSound t n p before site) l → FlightSound t n flight → FlightSound t n (sending_all flight p l)
  unfolding sending_all
  sends_sound flight [] shape h i = i
  sends_sound flight (s ∷ l) shape h i =
      sends_sound (sending flight p s) l (sending_shape flight shape p (omega arith) s (fits s h.0)) h.1 (send_sound flight s shape h.0 i)

-- ---- a message taken out

pub taken_sound : (t : Table) (n : ℕ) (flight : Flight) (form m from to : ℕ) → Shape flight → m < capacity → from < sites → FlightSound t n flight → FlightSound t n (taking_out flight form m from to)
taken_sound t n flight form m from to shape hm hf i = record {
  below = unfold taking_out in taken_below n flight i.below form m from to;
  each = λ f x a b k.
      let old = i.each f x a b (and_left (in_flight flight f x a b) (not (same_cell f x a form m from && eqb b to)) (sym (taking_in_flight flight shape form m from to f x a b) ∙ k)) in
      record {
        named = old.named;
        sender = old.sender;
        to_owner = old.to_owner;
        carries = λ e. rw (taking_carried flight shape form m from to hm hf x a) (pick (eqb form THIRD && (eqb x m && eqb a from)) x a (old.carries e));
      };
}
  where
    pick : (c : Bool) (x a : ℕ) → Offers t (carried_by flight x a) → Offers t (cond c empty_set (carried_by flight x a))
    pick true x a o y h = absurd (never h (member_empty words y))
    pick false x a o y h = o y h
