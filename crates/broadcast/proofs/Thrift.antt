-- Where no two offered postings conflict, the atomic broadcast is not used: no entry is ever in the pool or in the log.
-- Rests on Safety (what is seen was offered) and on Counts (n - f sites are a majority). Assumes nothing.
use Prim.Native.Nat.{ℕ, ◌-◌, ◌≤◌}
use mathlib.Core.Path.{◌≡◌, refl, ap, ◌∙◌}
use mathlib.Core.Logic.{inl, inr}
use mathlib.Core.Bool.{Bool, true, false, cond, ◌&&◌, ◌||◌}
use mathlib.Core.List.{List, []}
use native.Mathlib.Omega.{arith}
use lib.Dec.{eqb, leb}
use Rattle.broadcast.specs.Counts.{count, majority}
use Rattle.broadcast.specs.Machine.{World, Seconds, Thirds, Oracle, State, Cut, whole, part, goes, at2, at3, join, clear, joins, to_all, down, down_if, send_first, take_first, see, send_second, hear_second, take_second, step, send_third, hear_third, take_third, finish, take_deliver, deliver_at, append, advance, entry_of}
use Rattle.broadcast.specs.Runs.{heard_at, heard_of, late_second, late_third, on_offer, on_first, on_second, on_third, on_deliver, on_order, on_read, count_second, count_third, conclude, next_at, Event, offer, first, second, third, deliver, order, read, crash, Allowed, does, blank, Reached, start, next}
use Rattle.broadcast.proofs.Steps.{step_new, after_count_second, after_conclude, after_count_third, after_arrive}
use Rattle.broadcast.proofs.Tests.{test, nope, not-false, either, and_l, and_i, or_i_l, stays, drops, eqb_yes, at2_true, join_cases, leb-true}
use Rattle.broadcast.proofs.Counts.{count_mono, more_majority, enough, none_nowhere}
use Rattle.broadcast.proofs.Ending.{won, concludes}
use Rattle.broadcast.proofs.Safety.{Safe, safe, seen_named, second_named}

-- the posting that an event offers
abbrev pub offers : Event → ℕ → Bool
offers (offer m c) x = eqb m x
offers (first m r p c) x = false
offers (second m r p c) x = false
offers (third m r c) x = false
offers (deliver m r p c) x = false
offers (order m) x = false
offers (read p c) x = false
offers (crash p) x = false

module _ (w : World) where
  -- nothing but an offer changes what is offered
  abbrev Same : State → State → Type 0
  Same s t = t.offered ≡ s.offered

  same_down_if : (c : Cut) (s t : State) (p : ℕ) → Same s t → Same s (down_if w c t p)
  same_down_if whole s t p e = e
  same_down_if (part out) s t p e = unfold down in e

  same_second : (s : State) (m r p : ℕ) (c : Cut) → Same s (on_second w s m r p c)
  unfolding on_second take_second hear_second
  same_second s m r p c = same_down_if c s _ p (either (Same s) (late_second w s m r p) _ _ (λ _. refl) (λ _.
      after_count_second w (hear_second w s m r p) (Same s) m p c (λ _ _ _. refl)))

  same_third : (s : State) (m r : ℕ) (c : Cut) → Same s (on_third w s m r c)
  unfolding on_third take_third hear_third
  same_third s m r c = same_down_if c s _ (w.owner m) (either (Same s) (late_third w s m r) _ _ (λ _. refl) (λ _.
      after_count_third w (hear_third w s m r) (Same s) m c (λ _ _ _ _. refl)))

  same_deliver : (s : State) (m r p : ℕ) (c : Cut) → Same s (on_deliver w s m r p c)
  unfolding on_deliver take_deliver
  same_deliver s m r p c = same_down_if c s _ p (either (Same s) (s.delivers.got p m) _ _ (λ _. refl) (λ _. after_arrive w s (Same s) m p c (λ _ _ _. refl)))

  same_first : (s : State) (m r p : ℕ) (c : Cut) → Same s (on_first w s m r p c)
  unfolding on_first send_second see take_first
  same_first s m r p c = same_down_if c s _ p refl

  same_read : (s : State) (p : ℕ) (c : Cut) → Same s (on_read w s p c)
  unfolding on_read deliver_at advance
  same_read s p c = same_down_if c s _ p refl

  pub offered_does : (s : State) (e : Event) (x : ℕ) → (does w s e).offered x ≡ cond (offers e x) true (s.offered x)
  offered_does s (offer m c) x =
      unfold on_offer in ap (λ (q : ℕ → Bool). q x) (same_down_if c (send_first w s m c) (send_first w s m c) (w.owner m) refl) ∙ (unfold send_first in refl)
  offered_does s (first m r p c) x = ap (λ (q : ℕ → Bool). q x) (same_first s m r p c)
  offered_does s (second m r p c) x = ap (λ (q : ℕ → Bool). q x) (same_second s m r p c)
  offered_does s (third m r c) x = ap (λ (q : ℕ → Bool). q x) (same_third s m r c)
  offered_does s (deliver m r p c) x = ap (λ (q : ℕ → Bool). q x) (same_deliver s m r p c)
  offered_does s (order m) x = unfold on_order append in refl
  offered_does s (read p c) x = ap (λ (q : ℕ → Bool). q x) (same_read s p c)
  offered_does s (crash p) x = unfold down in refl

  pub offered_grows : (s : State) (e : Event) (x : ℕ) → s.offered x ≡ true → (does w s e).offered x ≡ true
  offered_grows s e x h = offered_does s e x ∙ stays (offers e x) (s.offered x) h

  -- no two offered postings conflict
  abbrev pub Apart : State → Type 0
  Apart s = (x y : ℕ) → s.offered x ≡ true → s.offered y ≡ true → w.conflict x y ≡ false

  -- every SECOND is GOOD, every step joins held, every THIRD carries its posting, and no entry is made
  pub record Calm (held stepped : ℕ → ℕ → Bool) (b : Seconds) (t : Thirds) (o : Oracle) : Type 0 where
    pub good : (m r p : ℕ) → b.sent m r p ≡ true → b.good m r p ≡ true
    pub agreed : (m r p : ℕ) → b.heard m r p ≡ true → b.agreed m r p ≡ true
    pub holds : (p m : ℕ) → stepped p m ≡ true → held p m ≡ true
    pub carries : (m r : ℕ) → t.sent m r ≡ true → t.carried m r m ≡ true
    pub has : (m r : ℕ) → t.heard m r ≡ true → t.has m r ≡ true
    pub no_pool : (m : ℕ) → o.pool m ≡ false
    pub no_log : o.log ≡ []

  abbrev pub CalmIn : State → Type 0
  CalmIn s = Calm s.sets.held s.sets.stepped s.seconds s.thirds s.oracle

  all_clear : (q : ℕ → Bool) (m : ℕ) → ((x : ℕ) → q x ≡ true → w.conflict m x ≡ false) → clear w q m ≡ true
  unfolding clear
  all_clear q m h = none_nowhere (λ x. q x && w.conflict m x) w.bound (λ x _. elim (test (q x)) [ inl t ↦ rw t (h x t) | inr f ↦ rw f ])

  most : (p q : ℕ → Bool) → w.n - w.f ≤ count p w.n → ((r : ℕ) → p r ≡ true → q r ≡ true) → majority q w.n ≡ true
  most p q many h =
      let more = count_mono p q w.n (λ r _. h r) in
      let k : w.n - w.f ≤ count q w.n = omega arith in
      more_majority q w.n (enough w.n w.f (count q w.n) w.few k)

  -- the small steps
  module _ (s : State) (i : CalmIn s) where
    calm_send_second : (m p : ℕ) (c : Cut) → clear w (s.sets.seen p) m ≡ true → CalmIn (send_second w s m p c)
    unfolding send_second
    calm_send_second m p c free = record {
      good = λ x a b h. elim (test (at2 m p x a && to_all w c b)) [ inl u ↦ rw u free | inr u ↦ rw u (i.good x a b (rw u at h)) ];
      agreed = i.agreed;
      holds = i.holds;
      carries = i.carries;
      has = i.has;
      no_pool = i.no_pool;
      no_log = i.no_log;
    }

    calm_hear_second : (m r p : ℕ) → s.seconds.sent m r p ≡ true → CalmIn (hear_second w s m r p)
    unfolding hear_second
    calm_hear_second m r p here = record {
      good = i.good;
      agreed = λ x a b h. elim (test (at3 m r p x a b)) [ inl u ↦ rw u (i.good m r p here) | inr u ↦ rw u (i.agreed x a b (rw u at h)) ];
      holds = i.holds;
      carries = i.carries;
      has = i.has;
      no_pool = i.no_pool;
      no_log = i.no_log;
    }

    calm_take_second : (m r p : ℕ) → CalmIn (take_second w s m r p)
    unfolding take_second
    calm_take_second m r p = record {
      good = λ x a b h. let d = drops (at3 m r p x a b) _ h in rw d.0 (i.good x a b d.1);
      agreed = i.agreed;
      holds = i.holds;
      carries = i.carries;
      has = i.has;
      no_pool = i.no_pool;
      no_log = i.no_log;
    }

    calm_step : (m p : ℕ) → joins w s m p ≡ true → CalmIn (step w s m p)
    unfolding step
    calm_step m p may = record {
      good = i.good;
      agreed = i.agreed;
      holds = λ a x h. elim (test (at2 p m a x)) [ inl u ↦ rw (u, may) | inr u ↦ rw u (i.holds a x (rw u at h)) ];
      carries = i.carries;
      has = i.has;
      no_pool = i.no_pool;
      no_log = i.no_log;
    }

    calm_send_third : (m p : ℕ) (c : Cut) → s.sets.stepped p m ≡ true → CalmIn (send_third w s m p c)
    unfolding send_third
    calm_send_third m p c st = record {
      good = i.good;
      agreed = i.agreed;
      holds = i.holds;
      carries = λ x a h. elim (test (at2 m p x a && goes c (w.owner m))) [
        | inl u ↦ let e = at2_true m p x a (and_l (at2 m p x a) (goes c (w.owner m)) u) in
            rw (u, ← e.0) (and_i (s.sets.held p m) (eqb m m || w.conflict m m) (i.holds p m st) (or_i_l (eqb m m) (w.conflict m m) (eqb_yes m m refl)))
        | inr u ↦ rw u (i.carries x a (rw u at h))
      ];
      has = i.has;
      no_pool = i.no_pool;
      no_log = i.no_log;
    }

    calm_hear_third : (m r : ℕ) → s.thirds.sent m r ≡ true → CalmIn (hear_third w s m r)
    unfolding hear_third
    calm_hear_third m r here = record {
      good = i.good;
      agreed = i.agreed;
      holds = i.holds;
      carries = i.carries;
      has = λ x a h. elim (test (at2 m r x a)) [ inl u ↦ rw u (i.carries m r here) | inr u ↦ rw u (i.has x a (rw u at h)) ];
      no_pool = i.no_pool;
      no_log = i.no_log;
    }

    calm_take_third : (m r : ℕ) → CalmIn (take_third w s m r)
    unfolding take_third
    calm_take_third m r = record {
      good = i.good;
      agreed = i.agreed;
      holds = i.holds;
      carries = λ x a h. let d = drops (at2 m r x a) _ h in rw d.0 (i.carries x a d.1);
      has = i.has;
      no_pool = i.no_pool;
      no_log = i.no_log;
    }

    calm_down_if : (c : Cut) (p : ℕ) → CalmIn (down_if w c s p)
    calm_down_if whole p = i
    calm_down_if (part out) p = unfold down in i

    -- where the THIRDs of more than half carried m, no entry of m is made
    calm_conclude : (m : ℕ) (c : Cut) → won w s.thirds m ≡ true → CalmIn (conclude w s m c)
    calm_conclude m c t =
        after_conclude w s (λ u. ((x : ℕ) → u.oracle.pool x ≡ false) → CalmIn u) m c
        (λ sent pool entry none. record { good = i.good; agreed = i.agreed; holds = i.holds; carries = i.carries; has = i.has; no_pool = none; no_log = i.no_log })
        (λ x. not-false ((conclude w s m c).oracle.pool x) (λ h. elim ((concludes w s m c (i.no_pool m)).pool_lost x h) [ inl u ↦ nope t u.1 | inr o ↦ nope o (i.no_pool x) ]))

  -- m is seen, at whichever site, and n - f sites said GOOD: the step joins held
  calm_stepping : (s : State) → CalmIn s → (m q p : ℕ) (c : Cut) → w.n - w.f ≤ heard_at w s m p → clear w ((see w s m q).sets.seen p) m ≡ true
      → CalmIn (send_third w (step w (see w s m q) m p) m p c)
  calm_stepping s i m q p c many free =
      let one = see w s m q in
      let k : CalmIn one = unfold see in i in
      let vote : majority (λ a. one.seconds.agreed m a p) w.n ≡ true =
      unfold see in most (λ a. s.seconds.heard m a p) (λ a. s.seconds.agreed m a p) many (λ a. i.agreed m a p) in
      calm_send_third (step w one m p) (calm_step one k m p (and_i (majority (λ a. one.seconds.agreed m a p) w.n) _ vote free)) m p c (step_new w one m p)

  -- the events
  module _ (s : State) (j : Safe w s) (apart : Apart s) (i : CalmIn s) where
    -- what p has seen, m with it, has nothing that conflicts with m
    sees_clear : (m q p : ℕ) → s.offered m ≡ true → clear w (join s.sets.seen q m p) m ≡ true
    sees_clear m q p known = all_clear (join s.sets.seen q m p) m (λ x h. elim (join_cases s.sets.seen q m p x h) [
      | inl e ↦ rw (← e.1) (w.irreflexive m)
      | inr o ↦ apart m x known (seen_named w s j p x o)
    ])

    calm_first : (m r p : ℕ) (c : Cut) → s.firsts m r p ≡ true → CalmIn (on_first w s m r p c)
    unfolding on_first
    calm_first m r p c here =
        let one = see w (take_first w s m r p) m p in
        let free : clear w (one.sets.seen p) m ≡ true = unfold see take_first in sees_clear m p p (j.first_named m r p here) in
        let k : CalmIn one = unfold see take_first in i in
        calm_down_if (send_second w one m p c) (calm_send_second one k m p c free) c p

    calm_second : (m r p : ℕ) (c : Cut) → s.seconds.sent m r p ≡ true → CalmIn (on_second w s m r p c)
    unfolding on_second count_second
    calm_second m r p c here =
        let one = hear_second w s m r p in
        let k = calm_hear_second s i m r p here in
        let free : (q : ℕ) → clear w ((see w one m q).sets.seen p) m ≡ true = unfold see hear_second in λ q. sees_clear m q p (second_named w s j m r p here) in
        calm_down_if _ (calm_take_second _ (either CalmIn (late_second w s m r p) _ _ (λ _. i) (λ _.
        either CalmIn (leb (w.n - w.f) (heard_at w one m p)) _ _
        (λ t. calm_stepping one k m _ p c (leb-true (w.n - w.f) (heard_at w one m p) t) (free _)) (λ _. k))) m r p) c p

    -- the n - f THIRDs heard all carried m: m goes by DELIVER
    calm_third : (m r : ℕ) (c : Cut) → s.thirds.sent m r ≡ true → CalmIn (on_third w s m r c)
    unfolding on_third count_third
    calm_third m r c here =
        let one = hear_third w s m r in
        let done = finish w one m in
        let k = calm_hear_third s i m r here in
        let ended : CalmIn done = unfold finish in k in
        let wins : w.n - w.f ≤ heard_of w one m → won w done.thirds m ≡ true = unfold finish in λ many.
        most (λ a. one.thirds.heard m a) (λ a. one.thirds.has m a) many (λ a. k.has m a) in
        calm_down_if _ (calm_take_third _ (either CalmIn (late_third w s m r) _ _ (λ _. i) (λ _.
        either CalmIn (leb (w.n - w.f) (heard_of w one m)) _ _
        (λ t. calm_conclude done ended m c (wins (leb-true (w.n - w.f) (heard_of w one m) t))) (λ _. k))) m r) c (w.owner m)

    calm_deliver : (m r p : ℕ) (c : Cut) → CalmIn (on_deliver w s m r p c)
    unfolding on_deliver take_deliver
    calm_deliver m r p c = calm_down_if _ (either CalmIn (s.delivers.got p m) _ _ (λ _. i) (λ _. after_arrive w s CalmIn m p c (λ _ _ _. i))) c p

    calm_does : (e : Event) → Allowed w s e → CalmIn (does w s e)
    calm_does (offer m c) ok = unfold on_offer in calm_down_if (send_first w s m c) (unfold send_first in i) c (w.owner m)
    calm_does (first m r p c) ok = calm_first m r p c ok.0
    calm_does (second m r p c) ok = calm_second m r p c ok.0
    calm_does (third m r c) ok = calm_third m r c ok.0
    calm_does (deliver m r p c) ok = calm_deliver m r p c
    calm_does (order m) ok = absurd (nope ok (i.no_pool m))
    calm_does (read p c) ok =
        let after = deliver_at w (advance w s p) p (entry_of w s.oracle.entry (next_at w s p)) c in
        unfold on_read in calm_down_if after (unfold deliver_at advance in i) c p
    calm_does (crash p) ok = unfold down in i

  calm_blank : CalmIn blank
  unfolding blank
  calm_blank = record {
    good = λ m r p h. h;
    agreed = λ m r p h. h;
    holds = λ p m h. h;
    carries = λ m r h. h;
    has = λ m r h. h;
    no_pool = λ m. refl;
    no_log = refl;
  }

  -- the hypothesis is about the state at the end: what was offered stays offered, so it held before
  pub calm : {es : List Event} {s : State} → Reached w es s → Apart s → CalmIn s
  calm start apart = calm_blank
  calm (next {es} {s} r e ok) apart =
      let before : Apart s = λ x y hx hy. apart x y (offered_grows s e x hx) (offered_grows s e y hy) in
      calm_does s (safe w r) before (calm r before) e ok

  pub thrift : {es : List Event} {s : State} → Reached w es s → Apart s → ((m : ℕ) → s.oracle.pool m ≡ false) × (s.oracle.log ≡ [])
  thrift r apart = let i = calm r apart in (i.no_pool, i.no_log)
