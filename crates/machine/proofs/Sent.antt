-- Sends by mask: what a mask of receivers does to the flight, the pool and the entries is what its list of sends does.
-- Rests on Calls and ByMask, on the laws of flight and site. Assumes nothing.
use Prim.Native.Nat.{ℕ, zero, suc, ◌/◌, ◌%◌, ◌^◌, ◌<◌, ◌≤◌}
use mathlib.Core.Path.{◌≡◌, refl, sym, ap, ◌∙◌}
use mathlib.Core.Logic.{◌≢◌}
use mathlib.Core.Bool.{Bool, true, false, cond, not, ◌&&◌, or-false}
use mathlib.Core.List.{List, [], ◌∷◌, ◌++◌}
use native.Mathlib.Omega.{arith}
use native.Mathlib.Decide.{ℕ_discrete, dec_lt}
use lib.Dec.{eqb, ltb}
use lib.ListN.{length, get_or, set}
use lib.Seq.{set-set, set-get_or, set_out, get_or-set_same}
use lib.Bits.{bit_or, or_lt, or_zero_r, or_self, or_add_and, and_le_l}
use lib.Pow.{pow_pos}
use borrow.Author.Tests.{eq-eqb, ne_eqb, lt-ltb, le-ltb}
use Rattle.sets.specs.declared.Set.{Set}
use Rattle.sets.specs.Masks.{has_bit}
use Rattle.sets.proofs.MaskLaws.{has_bit_above, has_bit_or, has_bit_pow, has_bit_zero, bits_ext}
use Rattle.sets.specs.Words.{insert, insert_if}
use Rattle.sets.specs.Sets.{of_words, with, with_if}
use Rattle.site.specs.declared.Sends.{Sends}
use Rattle.site.specs.Sites.{sites, no_set}
use Rattle.site.specs.Sends.{FIRST, SECOND, THIRD, DELIVER, forms, Send, first, second, third, deliver, entry}
use Rattle.site.specs.ByMask.{send_of, to_mask, sends_of}
use Rattle.flight.specs.declared.Flight.{Flight}
use Rattle.flight.specs.Flights.{cell_at, sending_to, sending, sending_all}
use Rattle.flight.specs.ByMask.{sending_mask}
use Rattle.flight.proofs.CellLaws.{bit_or_assoc}
use Rattle.flight.proofs.SendLaws.{all_append}
use Rattle.flight.proofs.BroadcastLaws.{mask_none, mask_twice, Broadcast}
use Rattle.machine.specs.Calls.{pooling, entering}
use Rattle.steps.specs.ByMask.{enters, entered}

-- ---- the sites of a mask below n

low : ℕ → ℕ → ℕ
low zero mask = 0
low (suc n) mask = bit_or (low n mask) (cond (has_bit mask n) (2 ^ n) 0)

site_fits : (n : ℕ) (b : Bool) → cond b (2 ^ n) 0 < 2 ^ suc n
site_fits n true = omega (arith, pow_pos n)
site_fits n false = omega (arith, pow_pos n)

low_fits : (n mask : ℕ) → low n mask < 2 ^ n
unfolding low
low_fits zero mask = omega arith
low_fits (suc n) mask = or_lt (suc n) (low n mask) (cond (has_bit mask n) (2 ^ n) 0) (omega (arith, low_fits n mask, pow_pos n)) (site_fits n (has_bit mask n))

low_bit : (n mask k : ℕ) → k < n → has_bit (low n mask) k ≡ has_bit mask k
unfolding low
low_bit zero mask k h = absurd (omega arith)
low_bit (suc n) mask k h = has_bit_or (low n mask) (cond (has_bit mask n) (2 ^ n) 0) k ∙ elim (ℕ_discrete k n) [
  | yes e ↦ rw (e, has_bit_above n (low n mask) n (low_fits n mask) (omega arith)) (own (has_bit mask n))
  | no d ↦ rw (low_bit n mask k (omega arith), other (has_bit mask n) d) (or-false (has_bit mask k))
]
  where
    own : (b : Bool) → has_bit (cond b (2 ^ n) 0) n ≡ b
    own true = has_bit_pow n n ∙ eq-eqb n n refl
    own false = has_bit_zero n

    other : (b : Bool) → k ≢ n → has_bit (cond b (2 ^ n) 0) k ≡ false
    other true d = has_bit_pow n k ∙ ne_eqb k n d
    other false d = has_bit_zero k

low_all : (n mask : ℕ) → mask < 2 ^ n → low n mask ≡ mask
low_all n mask h = bits_ext n (low n mask) mask (low_fits n mask) h (λ k l. low_bit n mask k l)

-- ---- the flight

-- a form past DELIVER is no message
past_forms : (flight : Flight) (from form m r : ℕ) (so : Bool) (load : Set) → forms ≤ form → sending_mask flight from form m r so load ≡ flight
unfolding sending_mask sending_to cell_at
past_forms flight from form m r so load h =
    rw (le-ltb form forms h, ne_eqb form SECOND (λ e. absurd (omega arith)), ne_eqb form THIRD (λ e. absurd (omega arith)))

module _ (m form : ℕ) (so : Bool) (load : Set) (mask : ℕ) where
  abbrev all : Sends
  all = record { form = form; to = mask; good = so; carried = load }

  past_sends : (flight : Flight) (from to : ℕ) → form ≢ FIRST → form ≢ SECOND → form ≢ THIRD → form ≢ DELIVER → sending flight from (send_of m all to) ≡ flight
  unfolding send_of sending
  past_sends flight from to a b c d = rw (ne_eqb form FIRST a, ne_eqb form SECOND b, ne_eqb form THIRD c, ne_eqb form DELIVER d)

  message_sends : (flight : Flight) (from to : ℕ) → Dec (form ≡ FIRST) → Dec (form ≡ SECOND) → Dec (form ≡ THIRD) → Dec (form ≡ DELIVER)
      → sending flight from (send_of m all to) ≡ sending_mask flight from form m (2 ^ to) so load
  message_sends flight from to (yes e) b c d = rw e (unfold send_of sending sending_mask in refl)
  message_sends flight from to (no a) (yes e) c d = rw e (unfold send_of sending sending_mask in refl)
  message_sends flight from to (no a) (no b) (yes e) d = rw e (unfold send_of sending sending_mask in rw (ne_eqb (2 ^ to) 0 (omega (arith, pow_pos to))))
  message_sends flight from to (no a) (no b) (no c) (yes e) = rw e (unfold send_of sending sending_mask in refl)
  message_sends flight from to (no a) (no b) (no c) (no d) =
      past_sends flight from to a b c d ∙ sym (past_forms flight from form m (2 ^ to) so load (omega arith))

  sends_broadcast : Broadcast (send_of m all) form m so load
  sends_broadcast flight from to = message_sends flight from to (ℕ_discrete form FIRST) (ℕ_discrete form SECOND) (ℕ_discrete form THIRD) (ℕ_discrete form DELIVER)

  sent_low : (flight : Flight) (from n : ℕ) → sending_all flight from (to_mask n mask (send_of m all)) ≡ sending_mask flight from form m (low n mask) so load
  unfolding to_mask sending_all low
  sent_low flight from zero = sym (mask_none from form m so load flight)
  sent_low flight from (suc n) =
      all_append flight from (to_mask n mask (send_of m all)) (cond (has_bit mask n) (send_of m all n ∷ []) [])
      ∙ rw (sent_low flight from n) (last (has_bit mask n))
    where
      last : (b : Bool) → sending_all (sending_mask flight from form m (low n mask) so load) from (cond b (send_of m all n ∷ []) [])
          ≡ sending_mask flight from form m (bit_or (low n mask) (cond b (2 ^ n) 0)) so load
      last true = sends_broadcast (sending_mask flight from form m (low n mask) so load) from n ∙ mask_twice from form m so load flight (low n mask) (2 ^ n)
      last false = rw (or_zero_r (low n mask))

  pub sent_mask : (flight : Flight) (from : ℕ) → mask < 2 ^ sites → sending_all flight from (sends_of m all) ≡ sending_mask flight from form m mask so load
  unfolding sends_of
  sent_mask flight from h = sent_low flight from sites ∙ rw (low_all sites mask h)

-- ---- the pool and the entries

insert_twice : (ws : List ℕ) (m : ℕ) → insert (insert ws m) m ≡ insert ws m
unfolding insert
insert_twice ws m = elim (dec_lt (m / 64) (length ws)) [
  | yes h ↦
      let w = get_or ws (m / 64) 0 in
      let bit = 2 ^ (m % 64) in
      rw (get_or-set_same ws (m / 64) (bit_or w bit) 0 h, set-set ws (m / 64) (bit_or w bit) (bit_or (bit_or w bit) bit), bit_or_assoc w bit bit, or_self bit)
  | no h ↦
      let past : length ws ≤ m / 64 = omega (arith, h) in
      rw (set_out ws (m / 64) (bit_or (get_or ws (m / 64) 0) (2 ^ (m % 64))) past, set_out ws (m / 64) (bit_or (get_or ws (m / 64) 0) (2 ^ (m % 64))) past)
]

pooling_append : (pool : Set) (l r : List Send) → pooling pool (l ++ r) ≡ pooling (pooling pool l) r
unfolding pooling
pooling_append pool [] r = refl
pooling_append pool (first m to ∷ l) r = pooling_append pool l r
pooling_append pool (second m to good ∷ l) r = pooling_append pool l r
pooling_append pool (third m to carried ∷ l) r = pooling_append pool l r
pooling_append pool (deliver m to ∷ l) r = pooling_append pool l r
pooling_append pool (entry m carried ∷ l) r = pooling_append (with pool m) l r

entering_append : (entries : List Set) (l r : List Send) → entering entries (l ++ r) ≡ entering (entering entries l) r
unfolding entering
entering_append entries [] r = refl
entering_append entries (first m to ∷ l) r = entering_append entries l r
entering_append entries (second m to good ∷ l) r = entering_append entries l r
entering_append entries (third m to carried ∷ l) r = entering_append entries l r
entering_append entries (deliver m to ∷ l) r = entering_append entries l r
entering_append entries (entry m carried ∷ l) r = entering_append (set entries m carried) l r

-- a send by its form: a message, or an entry
by_form : (m : ℕ) (s : Sends) (to : ℕ) (P : Send → Bool → Type 0)
    → ((x : ℕ) → P (first m x) false) → ((x : ℕ) (so : Bool) → P (second m x so) false) → ((x : ℕ) (load : Set) → P (third m x load) false) → ((x : ℕ) → P (deliver m x) false)
    → ((load : Set) → load ≡ s.carried → P (entry m load) true) → P (send_of m s to) (ltb DELIVER s.form)
unfolding send_of
by_form m s to P one two three four five = elim (ℕ_discrete s.form FIRST) [
  | yes e ↦ rw e (one to)
  | no a ↦ elim (ℕ_discrete s.form SECOND) [
    | yes e ↦ rw e (two to s.good)
    | no b ↦ elim (ℕ_discrete s.form THIRD) [
      | yes e ↦ rw e (three to s.carried)
      | no c ↦ elim (ℕ_discrete s.form DELIVER) [
        | yes e ↦ rw e (four to)
        | no d ↦ rw (ne_eqb s.form FIRST a, ne_eqb s.form SECOND b, ne_eqb s.form THIRD c, ne_eqb s.form DELIVER d, lt-ltb DELIVER s.form (omega arith)) (five s.carried refl)
      ]
    ]
  ]
]

-- what the sends of a mask do, where one of them does what two do
module _ {A : Type 0} (does : A → List Send → A) (none : (x : A) → does x [] ≡ x)
    (join : (x : A) (l r : List Send) → does x (l ++ r) ≡ does (does x l) r)
    (send : ℕ → Send) (new : A → A) (once : (x : A) (to : ℕ) → does x (send to ∷ []) ≡ new x) (twice : (x : A) → new (new x) ≡ new x) where
  mask_does : (x : A) (n mask : ℕ) → does x (to_mask n mask send) ≡ cond (eqb (low n mask) 0) x (new x)
  unfolding to_mask low
  mask_does x zero mask = none x
  mask_does x (suc n) mask =
      join x (to_mask n mask send) (cond (has_bit mask n) (send n ∷ []) []) ∙ rw (mask_does x n mask) (last (has_bit mask n) (ℕ_discrete (low n mask) 0))
    where
      last : (b : Bool) → Dec (low n mask ≡ 0) → does (cond (eqb (low n mask) 0) x (new x)) (cond b (send n ∷ []) [])
          ≡ cond (eqb (bit_or (low n mask) (cond b (2 ^ n) 0)) 0) x (new x)
      last true d =
          let some : bit_or (low n mask) (2 ^ n) ≢ 0 = omega (arith, or_add_and (low n mask) (2 ^ n), and_le_l (low n mask) (2 ^ n), pow_pos n) in
          rw (ne_eqb (bit_or (low n mask) (2 ^ n)) 0 some) (once (cond (eqb (low n mask) 0) x (new x)) n ∙ each (eqb (low n mask) 0))
        where
          each : (z : Bool) → new (cond z x (new x)) ≡ new x
          each true = refl
          each false = twice x
      last false d = none (cond (eqb (low n mask) 0) x (new x)) ∙ rw (or_zero_r (low n mask))

pool_once : (m : ℕ) (s : Sends) (pool : Set) (to : ℕ) → pooling pool (send_of m s to ∷ []) ≡ with_if pool m (ltb DELIVER s.form)
unfolding pooling insert_if
pool_once m s pool to = by_form m s to (λ send e. pooling pool (send ∷ []) ≡ with_if pool m e) (λ x. refl) (λ x so. refl) (λ x load. refl) (λ x. refl) (λ load e. refl)

entry_once : (m : ℕ) (s : Sends) (entries : List Set) (to : ℕ) → entering entries (send_of m s to ∷ []) ≡ cond (ltb DELIVER s.form) (set entries m s.carried) entries
unfolding entering
entry_once m s entries to = by_form m s to (λ send e. entering entries (send ∷ []) ≡ cond e (set entries m s.carried) entries)
    (λ x. refl) (λ x so. refl) (λ x load. refl) (λ x. refl) (λ load e. rw e)

module _ (m : ℕ) (s : Sends) (fits : s.to < 2 ^ sites) where
  pub pool_mask : (pool : Set) → pooling pool (sends_of m s) ≡ with_if pool m (enters s)
  unfolding sends_of pooling insert_if
  pool_mask pool =
      mask_does pooling (λ x. refl) pooling_append (send_of m s) (λ x. with_if x m (ltb DELIVER s.form)) (pool_once m s) (twice (ltb DELIVER s.form)) pool sites s.to
      ∙ rw (low_all sites s.to fits) (both (ltb DELIVER s.form) (eqb s.to 0))
    where
      twice : (e : Bool) (x : Set) → with_if (with_if x m e) m e ≡ with_if x m e
      twice true x = ap (λ (ws : List ℕ). of_words ws) (insert_twice x.words m)
      twice false x = refl

      both : (e z : Bool) → cond z pool (with_if pool m e) ≡ with_if pool m (e && not z)
      both true true = refl
      both true false = refl
      both false true = refl
      both false false = refl

  pub entry_mask : (entries : List Set) → entering entries (sends_of m s) ≡ set entries m (entered (get_or entries m no_set) s)
  unfolding sends_of entering
  entry_mask entries =
      mask_does entering (λ x. refl) entering_append (send_of m s) (λ x. cond (ltb DELIVER s.form) (set x m s.carried) x) (entry_once m s) (twice (ltb DELIVER s.form)) entries sites s.to
      ∙ rw (low_all sites s.to fits) (both (ltb DELIVER s.form) (eqb s.to 0))
    where
      put : Bool → List Set → List Set
      put e x = cond e (set x m s.carried) x

      twice : (e : Bool) (x : List Set) → put e (put e x) ≡ put e x
      twice true x = set-set x m s.carried s.carried
      twice false x = refl

      both : (e z : Bool) → cond z entries (put e entries) ≡ set entries m (cond (e && not z) s.carried (get_or entries m no_set))
      both true true = sym (set-get_or entries m no_set)
      both true false = refl
      both false true = sym (set-get_or entries m no_set)
      both false false = sym (set-get_or entries m no_set)
