-- The sends of a step, whole or cut, are one message to the sites of a mask; which sites the theory's cut lets them reach.
-- Rests on steps, flight and broadcast. Assumes nothing.
use Prim.Native.Nat.{ℕ, zero, suc, ◌-◌, ◌^◌, ◌<◌, ◌≤◌, min}
use mathlib.Core.Path.{◌≡◌, refl, sym, ap, ◌∙◌}
use mathlib.Core.Logic.{◌⊎◌, inl, inr}
use mathlib.Core.Bool.{Bool, true, false, cond, not, ◌&&◌, ◌||◌, and-true, and-false, and_comm}
use mathlib.Core.List.{List, [], ◌∷◌}
use native.Mathlib.Omega.{arith}
use native.Mathlib.Decide.{ℕ_discrete, dec_lt}
use lib.Dec.{eqb, ltb}
use lib.ListN.{length, take}
use lib.Seq.{take-nil}
use lib.Pow.{pow-lt, pow_pos, ones_lt, pow_mono}
use borrow.Author.Tests.{lt-ltb, le-ltb, ltb-true, eq-eqb, ne_eqb}
use Rattle.sets.specs.declared.Set.{Set}
use Rattle.sets.proofs.Truth.{test, never, both_ways, and_left, and_right, and_intro}
use Rattle.sets.specs.Masks.{has_bit}
use Rattle.sets.proofs.MaskLaws.{has_bit_pow, has_bit_zero}
use Rattle.sets.proofs.WordLaws.{empty_shape}
use Rattle.sets.specs.Sets.{words, capacity, empty_set, Shape}
use Rattle.site.specs.Sites.{sites}
use Rattle.site.specs.Sends.{FIRST, SECOND, THIRD, DELIVER, forms, Send, first, second, third, deliver, entry, to_all, to_others}
use Rattle.flight.specs.declared.Flight.{Flight}
use Rattle.flight.specs.Flights.{less, sending_all, sending}
use Rattle.flight.specs.Shapes.{Shape as FlightShape}
use Rattle.flight.specs.ByMask.{sending_mask}
use Rattle.flight.proofs.CellLaws.{has_bit_ones, has_bit_less}
use Rattle.flight.proofs.FlightLaws.{send_mask}
use Rattle.flight.proofs.SendLaws.{up_to, place_of, place_up_to, length_to_all, length_to_others, take_to_others}
use Rattle.flight.proofs.BroadcastLaws.{Broadcast, third_broadcast, mask_none, first_all_mask, to_all_mask, to_others_mask, first_others_mask, has_bit_others}
use Rattle.steps.specs.declared.Cut.{Cut}
use Rattle.steps.specs.declared.Cut.TheVariants.{Whole, After}
use Rattle.broadcast.specs.Machine.{World, whole, part, goes}
use Rattle.broadcast.specs.Machine as theory

-- the sends of a list that go out
abbrev pub out_of : List Send → Cut → List Send
out_of l Whole = l
out_of l (After j) = take j l

-- the theory's cut, by the place at which the send to a site stands
abbrev pub cut_by : (ℕ → ℕ) → Cut → theory.Cut
cut_by place Whole = whole
cut_by place (After j) = part (λ t. ltb (place t) j)

-- a mask of sites below n that says which receivers a send goes out to
pub record Cast (flight : Flight) (p form m : ℕ) (so : Bool) (load : Set) (sends : List Send) (reaches : ℕ → Bool) : Type 0 where
  pub mask : ℕ
  pub small : mask < 2 ^ 8
  pub bits : (b : ℕ) → b < sites → has_bit mask b ≡ reaches b
  pub is : sending_all flight p sends ≡ sending_mask flight p form m mask so load

pub eqb_turned : (x y : ℕ) → eqb x y ≡ eqb y x
eqb_turned x y = elim (ℕ_discrete x y) [ yes e ↦ eq-eqb x y e ∙ sym (eq-eqb y x (sym e)) | no d ↦ ne_eqb x y d ∙ sym (ne_eqb y x (λ e. d (sym e))) ]

and_lt_min : (b j n : ℕ) → ltb b (min j n) ≡ (ltb b n && ltb b j)
and_lt_min b j n = both_ways (ltb b (min j n)) (ltb b n && ltb b j)
    (λ h. let k = ltb-true b (min j n) h in and_intro (ltb b n) (ltb b j) (lt-ltb b n (omega arith)) (lt-ltb b j (omega arith)))
    (λ h. let k = ltb-true b n (and_left (ltb b n) (ltb b j) h) in let l = ltb-true b j (and_right (ltb b n) (ltb b j) h) in lt-ltb b (min j n) (omega arith))

module _ (flight : Flight) (s : FlightShape flight) (p m : ℕ) where
  -- nothing goes out
  pub cast_none_lem : (form : ℕ) (so : Bool) (load : Set) (reaches : ℕ → Bool) → ((b : ℕ) → b < sites → reaches b ≡ false) → Cast flight p form m so load [] reaches
  cast_none_lem form so load reaches none = record {
    mask = 0;
    small = pow_pos 8;
    bits = λ b lt. has_bit_zero b ∙ sym (none b lt);
    is = unfold sending_all in sym (mask_none p form m so load flight);
  }

  pub none_mask : (form : ℕ) (so : Bool) (load : Set) (reaches : ℕ → Bool) (none : (b : ℕ) → b < sites → reaches b ≡ false) → (cast_none_lem form so load reaches none).mask ≡ 0
  unfolding cast_none_lem
  none_mask form so load reaches none = refl

  -- to all
  pub cast_all : (send : ℕ → Send) (form : ℕ) (so : Bool) (load : Set) → Broadcast send form m so load → (n : ℕ) → n ≤ sites → (cut : Cut)
      → Cast flight p form m so load (out_of (to_all n send) cut) (λ b. ltb b n && goes (cut_by (λ t. t) cut) b)
  cast_all send form so load is n few Whole = record {
    mask = 2 ^ n - 1;
    small = let h = pow_mono {i = n} {j = 8} (omega arith) in let k = ones_lt n in omega arith;
    bits = λ b lt. has_bit_ones n b ∙ sym (and-true (ltb b n));
    is = to_all_mask send form m so load is flight p n;
  }
  cast_all send form so load is n few (After j) = record {
    mask = 2 ^ min j n - 1;
    small = let h = pow_mono {i = min j n} {j = 8} (omega arith) in let k = ones_lt (min j n) in omega arith;
    bits = λ b lt. has_bit_ones (min j n) b ∙ and_lt_min b j n;
    is = first_all_mask send form m so load is flight p j n;
  }

  -- to all but p
  pub cast_others : (send : ℕ → Send) (form : ℕ) (so : Bool) (load : Set) → Broadcast send form m so load → (n : ℕ) → n ≤ sites → (cut : Cut)
      → Cast flight p form m so load (out_of (to_others n p send) cut) (λ b. not (eqb p b) && (ltb b n && goes (cut_by (λ t. place_of t p) cut) b))
  cast_others send form so load is n few Whole = record {
    mask = less (2 ^ n - 1) (2 ^ p);
    small = let h = pow_mono {i = n} {j = 8} (omega arith) in let k = ones_lt n in omega arith;
    bits = λ b lt. has_bit_others n p b ∙ rw (and-true (ltb b n), eqb_turned b p) (and_comm (ltb b n) (not (eqb p b)));
    is = to_others_mask send form m so load is flight p n p;
  }
  cast_others send form so load is n few (After j) = record {
    mask = less (2 ^ min (up_to j p) n - 1) (2 ^ p);
    small = let h = pow_mono {i = min (up_to j p) n} {j = 8} (omega arith) in let k = ones_lt (min (up_to j p) n) in omega arith;
    bits = λ b lt. has_bit_others (min (up_to j p) n) p b ∙ below b;
    is = first_others_mask send form m so load is flight p j n p;
  }
    where
      below : (b : ℕ) → (ltb b (min (up_to j p) n) && not (eqb b p)) ≡ (not (eqb p b) && (ltb b n && ltb (place_of b p) j))
      below b = elim (ℕ_discrete b p) [
        | yes e ↦ rw (eqb_turned b p, eq-eqb p b (sym e)) (and-false (ltb b (min (up_to j p) n)))
        | no d ↦ rw (eqb_turned b p, ne_eqb p b (λ e. d (sym e)), place_up_to j n p b d) (and-true (ltb b n && ltb (place_of b p) j))
      ]

  -- one THIRD
  pub cast_third_lem : (to : ℕ) (carried : Set) → to < sites → (cut : Cut)
      → Cast flight p THIRD m false carried (out_of (third m to carried ∷ []) cut) (λ b. eqb b to && goes (cut_by (λ t. 0) cut) b)
  cast_third_lem to carried lt Whole = record {
    mask = 2 ^ to;
    small = pow-lt {i = to} {j = 8} (omega arith);
    bits = λ b l. has_bit_pow to b ∙ sym (and-true (eqb b to));
    is = unfold sending_all in third_broadcast m carried flight p to;
  }
  cast_third_lem to carried lt (After zero) = record {
    mask = 0;
    small = pow_pos 8;
    bits = λ b l. has_bit_zero b ∙ sym (and-false (eqb b to));
    is = unfold sending_all in sym (mask_none p THIRD m false carried flight);
  }
  cast_third_lem to carried lt (After (suc j)) = record {
    mask = 2 ^ to;
    small = pow-lt {i = to} {j = 8} (omega arith);
    bits = λ b l. has_bit_pow to b ∙ sym (ap (λ (v : Bool). eqb b to && v) (lt-ltb 0 (suc j) (omega arith)) ∙ and-true (eqb b to));
    is = unfold sending_all in ap (λ (l : List Send). sending_all (sending flight p (third m to carried)) p l) (take-nil j) ∙ third_broadcast m carried flight p to;
  }

  -- it goes out, if the cut lets it
  pub third_live : (to : ℕ) (carried : Set) (lt : to < sites) (cut : Cut) (b : ℕ) → not (eqb (cast_third_lem to carried lt cut).mask 0) ≡ goes (cut_by (λ t. 0) cut) b
  unfolding cast_third_lem
  third_live to carried lt Whole b = ap not (ne_eqb (2 ^ to) 0 (λ e. let h = pow_pos to in omega arith))
  third_live to carried lt (After zero) b = refl
  third_live to carried lt (After (suc j)) b = ap not (ne_eqb (2 ^ to) 0 (λ e. let h = pow_pos to in omega arith)) ∙ sym (lt-ltb 0 (suc j) (omega arith))

  -- a pool entry is no message
  pub cast_entry : (form : ℕ) (so : Bool) (load : Set) (carried : Set) (cut : Cut) → Cast flight p form m so load (out_of (entry m carried ∷ []) cut) (λ b. false)
  cast_entry form so load carried cut = record {
    mask = 0;
    small = pow_pos 8;
    bits = λ b lt. has_bit_zero b;
    is = none cut ∙ sym (mask_none p form m so load flight);
  }
    where
      none : (cut : Cut) → sending_all flight p (out_of (entry m carried ∷ []) cut) ≡ flight
      none Whole = unfold sending_all sending in refl
      none (After zero) = unfold sending_all in refl
      none (After (suc j)) = unfold sending_all sending in ap (λ (l : List Send). sending_all flight p l) (take-nil j)
