-- The sends to all, and to all but one, are one mask of receivers: the code of a step sends masks. Sends of the same message one after the other
-- are the joined mask; the first j sends are a mask too. Rests on Flights, FlightLaws and SendLaws. Assumes nothing.
use Prim.Native.Nat.{ℕ, zero, suc, ◌-◌, ◌^◌, min}
use mathlib.Core.Path.{◌≡◌, refl, sym, ap, ◌∙◌}
use mathlib.Core.Logic.{inl, inr, ◌≢◌}
use mathlib.Core.Bool.{Bool, true, false, cond, not, ◌&&◌, ◌||◌, or-false, and-false}
use mathlib.Core.List.{List, [], ◌∷◌, append-nil}
use native.Mathlib.Omega.{arith}
use native.Mathlib.Decide.{ℕ_discrete}
use lib.Dec.{eqb, ltb}
use lib.ListN.{take}
use lib.Bits.{bit_or, or_lt, or_zero_l, or_zero_r, or_add_and, and_le_l}
use lib.Pow.{pow_pos}
use borrow.Author.Tests.{eq-eqb, ne_eqb, eqb-true}
use Rattle.sets.specs.declared.Set.{Set}
use Rattle.sets.specs.Masks.{has_bit}
use Rattle.sets.proofs.MaskLaws.{has_bit_pow, has_bit_set, bits_ext}
use Rattle.sets.proofs.Truth.{test}
use Rattle.sets.specs.Sets.{empty_set}
use Rattle.site.specs.Sends.{FIRST, SECOND, THIRD, DELIVER, Send, first, second, third, deliver, to_all, to_others}
use Rattle.flight.specs.declared.Flight.{Flight}
use Rattle.flight.specs.Flights.{less, flight_of, sending_to, saying, carrying, sending, sending_all}
use Rattle.flight.specs.ByMask.{sending_mask}
use Rattle.flight.proofs.CellLaws.{has_bit_less, has_bit_ones, ones_more}
use Rattle.flight.proofs.ArrayLaws.{sending_none, saying_none, sending_twice, saying_twice}
use Rattle.flight.proofs.CarriedLaws.{carrying_twice}
use Rattle.flight.proofs.FlightLaws.{send_mask}
use Rattle.flight.proofs.SendLaws.{all_append, take_to_all, take_to_others, up_to, ltb_more}

-- ---- masks one after the other

module _ (from form m : ℕ) (so : Bool) (load : Set) where
  -- to no site, nothing
  pub mask_none : (flight : Flight) → sending_mask flight from form m 0 so load ≡ flight
  unfolding sending_mask
  mask_none flight = elim (test (eqb form SECOND)) [
    | inl t ↦ rw (sending_none flight.masks form m from, t, and-false (eqb form THIRD), saying_none flight.good m from so)
    | inr n ↦ rw (sending_none flight.masks form m from, n, and-false (eqb form THIRD))
  ]

  abbrev loading : Bool → List ℕ → ℕ → List ℕ
  loading is carried r = cond (is && not (eqb r 0)) (carrying carried m from load) carried

  loading_twice : (is : Bool) (carried : List ℕ) (r q : ℕ) → loading is (loading is carried r) q ≡ loading is carried (bit_or r q)
  loading_twice is carried r q = go (ℕ_discrete r 0) (ℕ_discrete q 0)
    where
      both : (t : Bool) → cond (t && true) (carrying (cond (t && true) (carrying carried m from load) carried) m from load) (cond (t && true) (carrying carried m from load) carried)
          ≡ cond (t && true) (carrying carried m from load) carried
      both true = carrying_twice carried m from load
      both false = refl

      go : Dec (r ≡ 0) → Dec (q ≡ 0) → loading is (loading is carried r) q ≡ loading is carried (bit_or r q)
      go (yes e) k = rw (e, or_zero_l q, and-false is)
      go (no d) (yes e) = rw (e, or_zero_r r, and-false is)
      go (no d) (no k) =
          let n : bit_or r q ≢ 0 = omega (arith, or_add_and r q, and_le_l r q) in
          rw (ne_eqb r 0 d, ne_eqb q 0 k, ne_eqb (bit_or r q) 0 n) (both is)

  pub mask_twice :
      (flight : Flight) (r q : ℕ)
      → sending_mask (sending_mask flight from form m r so load) from form m q so load ≡ sending_mask flight from form m (bit_or r q) so load
  unfolding sending_mask
  mask_twice flight r q =
      λ i. flight_of (masks i) (told (eqb form SECOND) i) (loading_twice (eqb form THIRD) flight.carried r q i)
    where
      masks : sending_to (sending_to flight.masks form m from r) form m from q ≡ sending_to flight.masks form m from (bit_or r q)
      masks = sending_twice flight.masks form m from r q

      told :
          (b : Bool)
          → cond b (saying (cond b (saying flight.good m from r so) flight.good) m from q so) (cond b (saying flight.good m from r so) flight.good)
          ≡ cond b (saying flight.good m from (bit_or r q) so) flight.good
      told true = saying_twice flight.good m from so r q
      told false = refl

-- ---- the masks of all, and of all but p

pub has_bit_others : (n p k : ℕ) → has_bit (less (2 ^ n - 1) (2 ^ p)) k ≡ (ltb k n && not (eqb k p))
has_bit_others n p k = has_bit_less (2 ^ n - 1) (2 ^ p) k ∙ rw (has_bit_ones n k, has_bit_pow p k)

-- one site more is p
others_same : (n : ℕ) → less (2 ^ suc n - 1) (2 ^ n) ≡ less (2 ^ n - 1) (2 ^ n)
others_same n =
    bits_ext (suc n) (less (2 ^ suc n - 1) (2 ^ n)) (less (2 ^ n - 1) (2 ^ n)) (omega (arith, pow_pos n)) (omega (arith, pow_pos n))
    (λ k h. has_bit_others (suc n) n k ∙ rw (ltb_more k n) (each (ltb k n) (eqb k n)) ∙ sym (has_bit_others n n k))
  where
    each : (a b : Bool) → ((a || b) && not b) ≡ (a && not b)
    each true b = refl
    each false true = refl
    each false false = refl

-- or is not
others_more : (n p : ℕ) → n ≢ p → bit_or (less (2 ^ n - 1) (2 ^ p)) (2 ^ n) ≡ less (2 ^ suc n - 1) (2 ^ p)
others_more n p d =
    bits_ext (suc n) (bit_or (less (2 ^ n - 1) (2 ^ p)) (2 ^ n)) (less (2 ^ suc n - 1) (2 ^ p))
    (or_lt (suc n) (less (2 ^ n - 1) (2 ^ p)) (2 ^ n) (omega (arith, pow_pos n)) (omega (arith, pow_pos n))) (omega (arith, pow_pos n))
    (λ k h. has_bit_set (less (2 ^ n - 1) (2 ^ p)) n k ∙ ap (λ (t : Bool). t || eqb k n) (has_bit_others n p k)
    ∙ each (ltb k n) (eqb k n) (eqb k p) (λ t. ne_eqb k p (λ e. d (sym (eqb-true k n t) ∙ e)))
    ∙ sym (has_bit_others (suc n) p k ∙ rw (ltb_more k n)))
  where
    each : (a b c : Bool) → (b ≡ true → c ≡ false) → (a && not c || b) ≡ ((a || b) && not c)
    each true true c h = rw (h refl)
    each true false c h = or-false (not c)
    each false true c h = rw (h refl)
    each false false c h = refl

-- ---- the sends are masks

-- send is the same message to whatever site
abbrev pub Broadcast : (ℕ → Send) → ℕ → ℕ → Bool → Set → Type 0
Broadcast send form m so load = (flight : Flight) (from to : ℕ) → sending flight from (send to) ≡ sending_mask flight from form m (2 ^ to) so load

pub first_broadcast : (m : ℕ) → Broadcast (λ to. first m to) FIRST m false empty_set
first_broadcast m flight from to = send_mask flight from (first m to)

pub second_broadcast : (m : ℕ) (good : Bool) → Broadcast (λ to. second m to good) SECOND m good empty_set
second_broadcast m good flight from to = send_mask flight from (second m to good)

pub third_broadcast : (m : ℕ) (carried : Set) → Broadcast (λ to. third m to carried) THIRD m false carried
third_broadcast m carried flight from to = send_mask flight from (third m to carried)

pub deliver_broadcast : (m : ℕ) → Broadcast (λ to. deliver m to) DELIVER m false empty_set
deliver_broadcast m flight from to = send_mask flight from (deliver m to)

module _ (send : ℕ → Send) (form m : ℕ) (so : Bool) (load : Set) (is : Broadcast send form m so load) (flight : Flight) (from : ℕ) where
  pub to_all_mask : (n : ℕ) → sending_all flight from (to_all n send) ≡ sending_mask flight from form m (2 ^ n - 1) so load
  unfolding to_all sending_all
  to_all_mask zero = sym (mask_none from form m so load flight)
  to_all_mask (suc n) =
      all_append flight from (to_all n send) (send n ∷ [])
      ∙ is (sending_all flight from (to_all n send)) from n
      ∙ ap (λ (g : Flight). sending_mask g from form m (2 ^ n) so load) (to_all_mask n)
      ∙ mask_twice from form m so load flight (2 ^ n - 1) (2 ^ n)
      ∙ ap (λ (r : ℕ). sending_mask flight from form m r so load) (ones_more n)

  pub first_all_mask : (j n : ℕ) → sending_all flight from (take j (to_all n send)) ≡ sending_mask flight from form m (2 ^ min j n - 1) so load
  first_all_mask j n = rw (take_to_all send j n) (to_all_mask (min j n))

  pub to_others_mask : (n p : ℕ) → sending_all flight from (to_others n p send) ≡ sending_mask flight from form m (less (2 ^ n - 1) (2 ^ p)) so load
  unfolding to_others sending_all
  to_others_mask zero p = sym (mask_none from form m so load flight)
  to_others_mask (suc n) p = elim (ℕ_discrete n p) [
    | yes e ↦ rw (e, eq-eqb p p refl, append-nil, others_same p) (rw e at (to_others_mask n p))
    | no d ↦
        rw (ne_eqb n p d)
        (all_append flight from (to_others n p send) (send n ∷ [])
        ∙ is (sending_all flight from (to_others n p send)) from n
        ∙ ap (λ (g : Flight). sending_mask g from form m (2 ^ n) so load) (to_others_mask n p)
        ∙ mask_twice from form m so load flight (less (2 ^ n - 1) (2 ^ p)) (2 ^ n)
        ∙ ap (λ (r : ℕ). sending_mask flight from form m r so load) (others_more n p d))
  ]

  pub first_others_mask :
      (j n p : ℕ) → sending_all flight from (take j (to_others n p send)) ≡ sending_mask flight from form m (less (2 ^ min (up_to j p) n - 1) (2 ^ p)) so load
  first_others_mask j n p = rw (take_to_others send j n p) (to_others_mask (min (up_to j p) n) p)
