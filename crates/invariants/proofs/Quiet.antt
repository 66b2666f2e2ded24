-- On a sound board: quiet exactly when every receive, order and read, whole or cut, with any arguments, is refused.
-- Rests on Judged and Reached. Assumes nothing.
use Prim.Native.Nat.{ℕ, zero, suc, ◌+◌, ◌-◌, ◌*◌, ◌/◌, ◌%◌, ◌^◌, ◌<◌, ◌≤◌}
use mathlib.Core.Path.{◌≡◌, refl, sym, ap, ◌∙◌}
use mathlib.Core.Logic.{◌⊎◌, inl, inr}
use mathlib.Core.Bool.{Bool, true, false, cond, not, ◌&&◌, ◌||◌}
use mathlib.Core.List.{List, [], ◌∷◌}
use native.Mathlib.Nat.{mod-eq_of_lt}
use native.Mathlib.Omega.{arith}
use native.Mathlib.Decide.{ℕ_discrete, dec_lt}
use lib.Dec.{eqb, ltb, leb}
use lib.ListN.{length, get_or}
use lib.Bits.{bit_and, and_lt}
use lib.Pow.{ones_sub-lt}
use borrow.Author.Tests.{eqb-true, eq-eqb, lt-leb, le-ltb, leb-true, le-leb}
use Rattle.sets.proofs.Truth.{test, never, not_so, and_left, and_right, and_intro, or_cases, or_left, or_right, not_flips}
use Rattle.sets.specs.Below.{all_below}
use Rattle.sets.proofs.BelowLaws.{all_at, all_from}
use Rattle.sets.specs.Masks.{has_bit}
use Rattle.sets.proofs.MaskLaws.{has_bit_and, has_bit_not, has_bit_zero, has_bit_above, bits_ext}
use Rattle.sets.proofs.WordLaws.{empty_member, member_none}
use Rattle.sets.specs.Sets.{capacity, has, is_empty_set}
use Rattle.site.specs.Sites.{sites}
use Rattle.site.specs.Sends.{forms}
use Rattle.flight.specs.Flights.{receivers_in, in_flight, nothing_comes, cell_at}
use Rattle.flight.proofs.CellLaws.{cell_in, cell_range, range_cell}
use Rattle.machine.specs.declared.Board.{Board}
use Rattle.steps.specs.declared.Cut.{Cut}
use Rattle.steps.specs.declared.Cut.TheVariants.{Whole, After}
use Rattle.steps.specs.declared.Call.{Call}
use Rattle.steps.specs.declared.Call.TheVariants.{Offer, Receive, Order, Read, Crash}
use Rattle.machine.specs.declared.Outcome.{Outcome}
use Rattle.machine.specs.Boards.{site_at, is_down}
use Rattle.machine.specs.Soundness.{is_sound}
use Rattle.steps.specs.Causes.{Cause}
use Rattle.machine.specs.Calls.{judged, no_such_site, receipt_of, receiving, ordering, reading}
use Rattle.machine.specs.Runs.{taking, accepted, up_mask, is_quiet, is_action, NothingLeft}
use Rattle.machine.proofs.SoundFacts.{Sound, no_bits}
use Rattle.machine.proofs.SoundTest.{facts_sound}
use Rattle.invariants.proofs.Judged.{NoneApply, Acts, read_step, receipt_taken, order_taken, read_taken}
use Rattle.invariants.proofs.FlightSound.{in_cell, cell_in_flight, bit_below}
use Rattle.invariants.proofs.Kept.{cells_below}
use Rattle.invariants.proofs.Reached.{GoodIf, good_sites}

-- ---- nothing comes

comes_at : (l : List ℕ) (up : ℕ) → nothing_comes l up ≡ true → (k : ℕ) → bit_and (get_or l k 0) up ≡ 0
unfolding nothing_comes
comes_at [] up h k = and_zero up
  where
    and_zero : (up : ℕ) → bit_and 0 up ≡ 0
    and_zero up = refl
comes_at (mask ∷ l) up h zero = eqb-true (bit_and mask up) 0 (and_left (eqb (bit_and mask up) 0) (nothing_comes l up) h)
comes_at (mask ∷ l) up h (suc k) = comes_at l up (and_right (eqb (bit_and mask up) 0) (nothing_comes l up) h) k

nothing_comes_lem : (l : List ℕ) (up : ℕ) → ((k : ℕ) → k < length l → bit_and (get_or l k 0) up ≡ 0) → nothing_comes l up ≡ true
unfolding nothing_comes
nothing_comes_lem [] up h = refl
nothing_comes_lem (mask ∷ l) up h =
    and_intro (eqb (bit_and mask up) 0) (nothing_comes l up) (eq-eqb (bit_and mask up) 0 (h zero (omega arith))) (nothing_comes_lem l up (λ k lt. h (suc k) (omega arith)))

-- the sites that are up, bit by bit
pub up_bit : (b : Board) → b.down < 2 ^ b.setup.n → (p : ℕ) → p < b.setup.n → has_bit (up_mask b) p ≡ not (is_down b p)
unfolding up_mask
up_bit b lt p lp = rw (mod-eq_of_lt lt) (has_bit_not b.setup.n b.down p lt lp)

up_below : (b : Board) → up_mask b < 2 ^ b.setup.n
unfolding up_mask
up_below b = ones_sub-lt b.setup.n (b.down % 2 ^ b.setup.n)

not_below_zero : (k : ℕ) → ltb k 0 ≡ false
not_below_zero k = le-ltb k 0 (omega arith)

-- ---- a call whose causes do not apply is accepted

none_judged : (l : List Cause) (back : Board) (taken : Outcome) → NoneApply l → judged l back taken ≡ taken
unfolding judged
none_judged [] back taken h = refl
none_judged (c ∷ l) back taken h = rw h.0 (none_judged l back taken h.1)

module _ {clean : Bool} (b : Board) (g : GoodIf clean b) where
  sound : is_sound b ≡ true
  sound = facts_sound b g.shape (good_sites b g) g.sound

  not_sound : not (is_sound b) ≡ false
  not_sound = rw sound

  site_there : (p : ℕ) → p < b.setup.n → no_such_site b p ≡ false
  site_there p lt = lt-leb b.setup.n p lt

  pub receive_accepted : (form m from to : ℕ) → from < b.setup.n → to < b.setup.n → is_down b to ≡ false → in_flight b.flight form m from to ≡ true
      → accepted (taking b (Receive form m from to Whole)).answer ≡ true
  unfolding taking receiving
  receive_accepted form m from to hf ht up h =
      ap (λ (o : Outcome). accepted o.answer) (none_judged _ b _ (not_sound, (rw (site_there from hf, site_there to ht), (up, (rw h, (refl, (not_below_zero (length (receipt_of b form m from to).sends), tt)))))))

  pub order_accepted : (m : ℕ) → has b.pool m ≡ true → accepted (taking b (Order m)).answer ≡ true
  unfolding taking ordering
  order_accepted m h = ap (λ (o : Outcome). accepted o.answer) (none_judged _ b _ (not_sound, (rw h, tt)))

  pub read_accepted : (site : ℕ) → site < b.setup.n → is_down b site ≡ false → (site_at b site).place < b.log.count → accepted (taking b (Read site Whole)).answer ≡ true
  unfolding taking reading
  read_accepted site lt up left =
      ap (λ (o : Outcome). accepted o.answer) (none_judged _ b _ (not_sound, (site_there site lt, (up, (lt-leb b.log.count (site_at b site).place left, (refl, (not_below_zero (length (read_step b site).sends), tt)))))))

  -- ---- quiet, so nothing is left

  quiet_parts : is_quiet b ≡ true → (nothing_comes b.flight.masks (up_mask b) ≡ true) × (is_empty_set b.pool ≡ true)
      × (all_below (λ p. is_down b p || leb b.log.count (site_at b p).place) b.setup.n ≡ true)
  unfolding is_quiet
  quiet_parts h =
      let a = nothing_comes b.flight.masks (up_mask b) in
      let c = is_empty_set b.pool in
      let d = all_below (λ p. is_down b p || leb b.log.count (site_at b p).place) b.setup.n in
      let rest = and_right a (c && d) h in
      (and_left a (c && d) h, and_left c d rest, and_right c d rest)

  -- as facts
  pub quiet_flight : is_quiet b ≡ true → (form m from to : ℕ) → to < b.setup.n → is_down b to ≡ false → in_flight b.flight form m from to ≡ false
  quiet_flight h form m from to lt up = not_so (in_flight b.flight form m from to) (λ k.
      let (c, bit) = in_cell b.flight form m from to k in
      let mask = receivers_in b.flight.masks form m from in
      let none = comes_at b.flight.masks (up_mask b) (quiet_parts h).0 (cell_at form m from) in
      let both = and_intro (has_bit mask to) (has_bit (up_mask b) to) bit (up_bit b g.sound.down to lt ∙ rw up) in
      never (has_bit_and mask (up_mask b) to ∙ both) (ap (λ (v : ℕ). has_bit v to) none ∙ has_bit_zero to))

  pub quiet_pool : is_quiet b ≡ true → (m : ℕ) → has b.pool m ≡ false
  quiet_pool h m = empty_member b.pool.words (quiet_parts h).1 m

  pub quiet_place : is_quiet b ≡ true → (p : ℕ) → p < b.setup.n → is_down b p ≡ false → b.log.count ≤ (site_at b p).place
  quiet_place h p lt up = elim (or_cases (is_down b p) (leb b.log.count (site_at b p).place) (all_at (λ p. is_down b p || leb b.log.count (site_at b p).place) b.setup.n p (quiet_parts h).2 lt)) [
    | inl d ↦ absurd (never d up)
    | inr k ↦ leb-true b.log.count (site_at b p).place k
  ]

  pub quiet_left : is_quiet b ≡ true → NothingLeft b
  quiet_left h (Offer site kind account other amount cut) a = absurd (never a refl)
  quiet_left h (Receive form m from to cut) a = not_so (accepted (taking b (Receive form m from to cut)).answer) (λ t.
      let k = receipt_taken b form m from to cut (unfold taking in t) in
      never k.coming (quiet_flight h form m from to k.acts.there k.acts.up))
  quiet_left h (Order m) a = not_so (accepted (taking b (Order m)).answer) (λ t. never (order_taken b m (unfold taking in t)).pooled (quiet_pool h m))
  quiet_left h (Read site cut) a = not_so (accepted (taking b (Read site cut)).answer) (λ t.
      let k = read_taken b site cut (unfold taking in t) in
      let all = quiet_place h site k.acts.there k.acts.up in
      omega (arith, k.left))
  quiet_left h (Crash site) a = absurd (never a refl)

  -- ---- nothing left, so quiet

  pub left_quiet : NothingLeft b → is_quiet b ≡ true
  unfolding is_quiet
  left_quiet none =
      and_intro (nothing_comes b.flight.masks (up_mask b)) _ (nothing_comes_lem b.flight.masks (up_mask b) cells)
      (and_intro (is_empty_set b.pool) _ (member_none b.pool.words g.shape.pool (λ m. not_so (has b.pool m) (λ h. never (order_accepted m h) (none (Order m) refl))))
      (all_from (λ p. is_down b p || leb b.log.count (site_at b p).place) b.setup.n places))
    where
      cells : (k : ℕ) → k < length b.flight.masks → bit_and (get_or b.flight.masks k 0) (up_mask b) ≡ 0
      cells k lt =
          let form = k / (capacity * sites) in
          let m = k / sites % capacity in
          let from = k % sites in
          let hm : m < capacity = omega arith in
          let hf : from < sites = omega arith in
          let hform : form < forms = omega (arith, g.shape.flight.masks.long) in
          let e : cell_at form m from ≡ k = rw (cell_in form m from hform hm hf) (omega arith) in
          let n = b.setup.n in
          let mask = receivers_in b.flight.masks form m from in
          let below = cells_below b g.shape g.sound.each_cell (cell_at form m from) in
          rw (← e) (no_bits n (bit_and mask (up_mask b)) (and_lt n mask (up_mask b) below (up_below b)) (λ to lto.
          not_so (has_bit (bit_and mask (up_mask b)) to) (λ h.
          let both = sym (has_bit_and mask (up_mask b) to) ∙ h in
          let bit = and_left (has_bit mask to) (has_bit (up_mask b) to) both in
          let up = not_flips (is_down b to) (sym (up_bit b g.sound.down to lto) ∙ and_right (has_bit mask to) (has_bit (up_mask b) to) both) in
          let few = good_sites b g in
          let coming = cell_in_flight b.flight form m from to (range_cell form m from hform hm hf) (omega arith) bit in
          never (receive_accepted form m from to ((g.sound.each_cell form m from hform hm hf).sender to bit) lto up coming) (none (Receive form m from to Whole) refl))))

      places : (p : ℕ) → p < b.setup.n → (is_down b p || leb b.log.count (site_at b p).place) ≡ true
      places p lt = elim (test (is_down b p)) [
        | inl d ↦ or_left (is_down b p) (leb b.log.count (site_at b p).place) d
        | inr up ↦ or_right (is_down b p) (leb b.log.count (site_at b p).place) (elim (dec_lt (site_at b p).place b.log.count) [
          | yes left ↦ absurd (never (read_accepted p lt up left) (none (Read p Whole) refl))
          | no all ↦ le-leb b.log.count (site_at b p).place (omega arith)
        ])
      ]
