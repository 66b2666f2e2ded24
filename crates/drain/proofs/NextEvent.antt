-- The next event of a drain: accepted and whole; and there is one unless the board is quiet.
-- Rests on flight's search and on invariants. Assumes nothing.
use Rattle.std.proofs.Common.{Some, None}
use Prim.Native.Nat.{ℕ, zero, suc, ◌-◌, ◌^◌, ◌<◌, ◌≤◌}
use mathlib.Core.Path.{◌≡◌, refl, sym, ap, ◌∙◌, subst}
use mathlib.Core.Logic.{◌⊎◌, inl, inr}
use mathlib.Core.Bool.{Bool, true, false, cond, not, ◌&&◌}
use mathlib.Core.List.{List, [], ◌∷◌}
use native.Mathlib.Omega.{arith}
use native.Mathlib.Decide.{ℕ_discrete}
use lib.Dec.{eqb, ltb}
use lib.Pow.{pow_pos}
use borrow.Author.Tests.{eq-eqb, ltb-true, lt-ltb}
use Rattle.sets.proofs.Truth.{test, never, not_so, and_left, and_right, or_left}
use Rattle.sets.specs.Masks.{has_bit}
use Rattle.sets.specs.Numbers.{listed}
use Rattle.sets.proofs.WordLaws.{listed_members}
use Rattle.sets.specs.Sets.{has, members_of}
use Rattle.flight.specs.Flights.{in_flight, lowest, Found, message}
use Rattle.flight.proofs.LowestLaws.{IsLowest, lowest_found, lowest_nothing}
use Rattle.machine.specs.declared.Board.{Board}
use Rattle.steps.specs.declared.Cut.{Cut}
use Rattle.steps.specs.declared.Cut.TheVariants.{Whole}
use Rattle.steps.specs.declared.Call.{Call}
use Rattle.steps.specs.declared.Call.TheVariants.{Offer, Receive, Order, Read, Crash}
use Rattle.machine.specs.Boards.{site_at, is_down, is_up}
use Rattle.machine.specs.Runs.{taking, accepted, is_action, NothingLeft, is_quiet, up_mask}
use Rattle.drain.specs.Drain.{is_whole, Next, none, event, next_read, next_order, next_after, next_event}
use Rattle.invariants.proofs.Judged.{receipt_taken, order_taken, read_taken}
use Rattle.invariants.proofs.FlightSound.{bit_below}
use Rattle.invariants.proofs.Quiet.{up_bit, receive_accepted, order_accepted, read_accepted, quiet_left, left_quiet}
use Rattle.invariants.proofs.Reached.{GoodIf, good_flight}

event_same : {c d : Call} → event c ≡ event d → c ≡ d
event_same e = cc

is_event : Next → Bool
is_event none = false
is_event (event c) = true

pub not_none : {c : Call} → none ≡ event c → ⊥
unfolding is_event
not_none e = never (ap is_event e) refl

-- what a next event is
abbrev Fine : Board → Call → Type 0
Fine b c = (accepted (taking b c).answer ≡ true) × (is_whole c ≡ true) × (is_action c ≡ true)

module _ {clean : Bool} (b : Board) (g : GoodIf clean b) where
  up_not : (p : ℕ) → is_up b p ≡ true → is_down b p ≡ false
  up_not p h = go (is_down b p) (and_right (ltb p b.setup.n) (not (is_down b p)) h)
    where
      go : (d : Bool) → not d ≡ true → d ≡ false
      go true e = sym e
      go false e = refl

  -- ---- a reading

  read_fine : (n : ℕ) → n ≤ b.setup.n → (c : Call) → next_read b n ≡ event c → Fine b c
  unfolding next_read
  read_fine zero le c e = absurd (not_none e)
  read_fine (suc n) le c e = go (next_read b n) (λ d h. read_fine n (omega arith) d h) e
    where
      here : Bool
      here = is_up b n && ltb (site_at b n).place b.log.count

      found : here ≡ true → Fine b (Read n Whole)
      found h =
          let up = up_not n (and_left (is_up b n) (ltb (site_at b n).place b.log.count) h) in
          let left = ltb-true (site_at b n).place b.log.count (and_right (is_up b n) (ltb (site_at b n).place b.log.count) h) in
          (read_accepted b g n (omega arith) up left, refl, refl)

      at : (v : Bool) → here ≡ v → cond v (event (Read n Whole)) none ≡ event c → Fine b c
      at true h e = subst (λ (d : Call). Fine b d) (event_same e) (found h)
      at false h e = absurd (not_none e)

      go : (r : Next) → ((d : Call) → r ≡ event d → Fine b d) → elim r [ none ↦ cond here (event (Read n Whole)) none | event d ↦ event d ] ≡ event c → Fine b c
      go none rest e = at here refl e
      go (event d) rest e = subst (λ (d : Call). Fine b d) (event_same e) (rest d refl)

  read_none : (n : ℕ) → next_read b n ≡ none → (p : ℕ) → p < n → is_up b p ≡ true → (site_at b p).place < b.log.count → ⊥
  unfolding next_read
  read_none zero e p lt up left = omega arith
  read_none (suc n) e p lt up left = go (next_read b n) (λ h q lq uq leftq. read_none n h q lq uq leftq) e
    where
      at : p ≡ n → cond (is_up b n && ltb (site_at b n).place b.log.count) (event (Read n Whole)) none ≡ none → ⊥
      at d e =
          let here : (is_up b n && ltb (site_at b n).place b.log.count) ≡ true = rw (← d) (rw (up, lt-ltb (site_at b p).place b.log.count left)) in
          not_none (sym (rw here at e))

      go : (r : Next) → (r ≡ none → (q : ℕ) → q < n → is_up b q ≡ true → (site_at b q).place < b.log.count → ⊥)
          → elim r [ none ↦ cond (is_up b n && ltb (site_at b n).place b.log.count) (event (Read n Whole)) none | event d ↦ event d ] ≡ none → ⊥
      go none rest e = elim (ℕ_discrete p n) [ yes d ↦ at d e | no d ↦ rest refl p (omega arith) up left ]
      go (event d) rest e = not_none (sym e)

  -- ---- an order

  order_fine : (l : List ℕ) → members_of b.pool ≡ l → (c : Call) → next_order b l ≡ event c → Fine b c
  unfolding next_order
  order_fine [] m c e = read_fine b.setup.n (omega arith) c e
  order_fine (x ∷ l) m c e =
      let in-pool : has b.pool x ≡ true = sym (listed_members b.pool.words x) ∙ ap (listed x) m ∙ unfold listed in or_left (eqb x x) (listed x l) (eq-eqb x x refl) in
      subst (λ (d : Call). Fine b d) (event_same e) (order_accepted b g x in-pool, refl, refl)

  order_none : (l : List ℕ) → members_of b.pool ≡ l → next_order b l ≡ none → ((m : ℕ) → has b.pool m ≡ false) × (next_read b b.setup.n ≡ none)
  unfolding next_order
  order_none [] m e = (λ x. sym (listed_members b.pool.words x) ∙ ap (listed x) m ∙ unfold listed in refl, e)
  order_none (x ∷ l) m e = absurd (not_none (sym e))

  -- ---- a receipt

  mask_below : up_mask b < 2 ^ b.setup.n
  unfolding up_mask
  mask_below = omega (arith, pow_pos b.setup.n)

  message_fine : (form m from to : ℕ) → lowest b.flight (up_mask b) ≡ message form m from to → Fine b (Receive form m from to Whole)
  message_fine form m from to e =
      let l = lowest_found b.flight g.shape.flight (up_mask b) form m from to e in
      let there = bit_below b.setup.n (up_mask b) to mask_below l.comes in
      let up : is_down b to ≡ false = go (is_down b to) (sym (up_bit b g.sound.down to there) ∙ l.comes) in
      (receive_accepted b g form m from to ((good_flight b g).each form m from to l.flies).sender there up l.flies, refl, refl)
    where
      go : (d : Bool) → not d ≡ true → d ≡ false
      go true e = sym e
      go false e = refl

  next_fine : (c : Call) → next_event b ≡ event c → Fine b c
  unfolding next_event next_after
  next_fine c e = go (lowest b.flight (up_mask b)) refl e
    where
      go : (r : Found) → lowest b.flight (up_mask b) ≡ r → next_after b r ≡ event c → Fine b c
      go None h e = order_fine (members_of b.pool) refl c e
      go (Some m) h e = subst (λ (d : Call). Fine b d) (event_same e) (message_fine m.form m.posting m.from m.to h)

  left_none : next_event b ≡ none → NothingLeft b
  unfolding next_event next_after
  left_none e = go (lowest b.flight (up_mask b)) refl e
    where
      up_is : (p : ℕ) → p < b.setup.n → is_down b p ≡ false → is_up b p ≡ true
      up_is p lt h = rw (lt-ltb p b.setup.n lt, h)

      nothing : lowest b.flight (up_mask b) ≡ None → next_order b (members_of b.pool) ≡ none → NothingLeft b
      nothing h e (Offer site kind account other amount cut) a = absurd (never a refl)
      nothing h e (Receive form m from to cut) a = not_so (accepted (taking b (Receive form m from to cut)).answer) (λ t.
          let k = receipt_taken b form m from to cut (unfold taking in t) in
          never (up_bit b g.sound.down to k.acts.there ∙ ap not k.acts.up) (lowest_nothing b.flight g.shape.flight (up_mask b) h form m from to k.coming))
      nothing h e (Order m) a = not_so (accepted (taking b (Order m)).answer) (λ t.
          never (order_taken b m (unfold taking in t)).pooled ((order_none (members_of b.pool) refl e).0 m))
      nothing h e (Read site cut) a = not_so (accepted (taking b (Read site cut)).answer) (λ t.
          let k = read_taken b site cut (unfold taking in t) in
          read_none b.setup.n (order_none (members_of b.pool) refl e).1 site k.acts.there (up_is site k.acts.there k.acts.up) k.left)
      nothing h e (Crash site) a = absurd (never a refl)

      go : (r : Found) → lowest b.flight (up_mask b) ≡ r → next_after b r ≡ none → NothingLeft b
      go None h e = nothing h e
      go (Some m) h e = absurd (not_none (sym e))

  -- ---- the laws

  pub next_accepted : (c : Call) → next_event b ≡ event c → (accepted (taking b c).answer ≡ true) × (is_whole c ≡ true)
  next_accepted c e = let k = next_fine c e in (k.0, k.1)

  pub next_acts : (c : Call) → next_event b ≡ event c → is_action c ≡ true
  next_acts c e = (next_fine c e).2

  pub next_none : next_event b ≡ none → is_quiet b ≡ true
  next_none e = left_quiet b g (left_none e)

  pub quiet_next : is_quiet b ≡ true → next_event b ≡ none
  quiet_next q = go (next_event b) refl
    where
      go : (r : Next) → next_event b ≡ r → next_event b ≡ none
      go none e = e
      go (event c) e = let k = next_fine c e in absurd (never k.0 (quiet_left b g q c k.2))
