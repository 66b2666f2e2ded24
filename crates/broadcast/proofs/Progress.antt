-- When nothing is left to do, the sites that are up have the same postings, among them all that those sites offered.
-- Rests on Live (L1 to L6), on DOWN (at most f sites are down) and on Records (R2, R3). Assumes nothing.
use Prim.Native.Nat.{ℕ, zero, suc, ◌+◌, ◌-◌, ◌<◌, ◌≤◌}
use mathlib.Core.Path.{◌≡◌, refl, sym, ap, ◌∙◌, subst}
use mathlib.Core.Logic.{inl, inr}
use mathlib.Core.Bool.{Bool, true, false, cond, not}
use mathlib.Core.List.{List, [], ◌∷◌}
use native.Mathlib.Omega.{arith}
use lib.Dec.{eqb}
use lib.Seq.{take_all}
use Rattle.broadcast.specs.Lists.{In}
use Rattle.broadcast.specs.Deliveries.{members}
use Rattle.broadcast.specs.Counts.{count}
use Rattle.broadcast.specs.Machine.{World, State, Cut, whole, part, entry_of, expand, down, down_if, send_first, take_first, see, send_second, hear_second, take_second, hear_third, take_third, take_deliver, deliver_at, append, advance}
use Rattle.broadcast.specs.Runs.{late_second, late_third, on_offer, on_first, on_second, on_third, on_deliver, on_order, on_read, count_second, count_third, arrive, next_at, lost, MayCut, Event, offer, first, second, third, order, read, crash, Allowed, does, blank, Reached, start, next, Quiet}
use Rattle.broadcast.proofs.Late.{second_late, third_late}
use Rattle.broadcast.proofs.Steps.{arrive_new, after_count_second, after_count_third, after_arrive}
use Rattle.broadcast.proofs.Tests.{test, nope, either, drops, eqb_yes, eqb_no, at2_refl, at3_refl, same_or}
use Rattle.broadcast.proofs.Counts.{bit_le, count_ext, count_mono, count_not, count_none}
use Rattle.broadcast.proofs.Lists.{in_left, in_right}
use Rattle.broadcast.proofs.Safety.{Safe, safe}
use Rattle.broadcast.proofs.Records.{RecordsOf, in_expand, records}
use Rattle.broadcast.proofs.Live.{LiveAt, Comes, Full, live_less, live_offer, live_first, live_take_second, live_count_second, live_take_third, live_count_third, live_take_deliver, live_arrive, live_append}

-- which sites are up after a step of p
abbrev pub up_after : Cut → (ℕ → Bool) → ℕ → ℕ → Bool
up_after whole up p a = up a
up_after (part out) up p a = cond (eqb p a) false (up a)

pub up_before : (c : Cut) (up : ℕ → Bool) (p a : ℕ) → up_after c up p a ≡ true → up a ≡ true
up_before whole up p a h = h
up_before (part out) up p a h = (drops (eqb p a) (up a) h).1

-- a crash, or a cut, takes one site down
count_down : (up : ℕ → Bool) (p n : ℕ) → count (λ a. not (cond (eqb p a) false (up a))) n ≤ count (λ a. not (up a)) n + 1
count_down up p zero = omega arith
count_down up p (suc n) = elim (same_or p n) [
  | inl e ↦ omega (
    arith,
    bit_le (not (cond (eqb p n) false (up n))),
    count_ext (λ a. not (cond (eqb p a) false (up a))) (λ a. not (up a)) n (λ a lt. rw (eqb_no p a (omega arith))),
  )
  | inr d ↦ rw (eqb_no p n d) (omega (arith, count_down up p n))
]

module _ (w : World) where
  pub all_out : (c : Cut) (up : ℕ → Bool) (p : ℕ) → Full w (up_after c up p) c p
  all_out whole up p h t = refl
  all_out (part out) up p h t = absurd (nope h (rw (eqb_yes p p refl)))

  abbrev pub LiveOf : State → Type 0
  LiveOf s = LiveAt w s.sites.up s

  -- a step's result, and the site's fate
  settled : (c : Cut) (s : State) (up : ℕ → Bool) (p : ℕ) → s.sites.up ≡ up → LiveAt w (up_after c up p) s → LiveOf (down_if w c s p)
  settled whole s up p e i = subst (λ (v : ℕ → Bool). LiveAt w v s) (sym e) i
  settled (part out) s up p e i = unfold down in subst (λ (v : ℕ → Bool). LiveAt w (λ a. cond (eqb p a) false (v a)) s) (sym e) i

  -- the state of a step before its site may go down
  abbrev pub second_of : State → ℕ → ℕ → ℕ → Cut → State
  second_of s m r p c = take_second w (cond (late_second w s m r p) s (count_second w (hear_second w s m r p) m p c)) m r p

  abbrev pub third_of : State → ℕ → ℕ → Cut → State
  third_of s m r c = take_third w (cond (late_third w s m r) s (count_third w (hear_third w s m r) m c)) m r

  abbrev pub deliver_of : State → ℕ → ℕ → ℕ → Cut → State
  deliver_of s m r p c = take_deliver w (cond (s.delivers.got p m) s (arrive w s m p c)) m r p

  module _ (s : State) (j : Safe w s) (i : LiveOf s) where
    live_second : (m r p : ℕ) (c : Cut) → LiveAt w (up_after c s.sites.up p) (second_of s m r p c)
    live_second m r p c =
        let up = up_after c s.sites.up p in
        let k = live_less w s.sites.up up s (up_before c s.sites.up p) i in
        let one = hear_second w s m r p in
        let heard : one.seconds.heard m r p ≡ true = unfold hear_second in rw (at3_refl m r p) in
        either (λ (t : State). LiveAt w up (take_second w t m r p)) (late_second w s m r p) _ _
        (λ late. live_take_second w up s k m r p (second_late w s m r p (i.answering.steps m p) late))
        (λ _. live_take_second w up _ (live_count_second w up s k m r p c (all_out c s.sites.up p)) m r p
        (inl (after_count_second w one (λ t. t.seconds.heard m r p ≡ true) m p c (λ _ _ _. heard))))

    live_third : (m r : ℕ) (c : Cut) → LiveAt w (up_after c s.sites.up (w.owner m)) (third_of s m r c)
    live_third m r c =
        let up = up_after c s.sites.up (w.owner m) in
        let k = live_less w s.sites.up up s (up_before c s.sites.up (w.owner m)) i in
        let one = hear_third w s m r in
        let heard : one.thirds.heard m r ≡ true = unfold hear_third in rw (at2_refl m r) in
        either (λ (t : State). LiveAt w up (take_third w t m r)) (late_third w s m r) _ _
        (λ late. live_take_third w up s k m r (third_late w s m r (i.reporting.ends m) late))
        (λ _. live_take_third w up _ (live_count_third w up s k m r c (all_out c s.sites.up (w.owner m))) m r
        (inl (after_count_third w one (λ t. t.thirds.heard m r ≡ true) m c (λ _ _ _ _. heard))))

    live_deliver : (m r p : ℕ) (c : Cut) → p < w.n → s.delivers.sent m r p ≡ true → LiveAt w (up_after c s.sites.up p) (deliver_of s m r p c)
    live_deliver m r p c lp here =
        let up = up_after c s.sites.up p in
        let k = live_less w s.sites.up up s (up_before c s.sites.up p) i in
        either (λ (t : State). LiveAt w up (take_deliver w t m r p)) (s.delivers.got p m) _ _
        (λ known. live_take_deliver w up s k m r p known)
        (λ _. live_take_deliver w up _ (live_arrive w up s k m p c lp (all_out c s.sites.up p) (j.ending.sent_fast m r p here)) m r p (arrive_new w s m p c))

  -- the steps leave `up` alone
  same_second_of : (s : State) (m r p : ℕ) (c : Cut) → (second_of s m r p c).sites.up ≡ s.sites.up
  unfolding take_second hear_second
  same_second_of s m r p c =
      either (λ (t : State). t.sites.up ≡ s.sites.up) (late_second w s m r p) _ _
      (λ _. refl) (λ _. after_count_second w (hear_second w s m r p) (λ t. t.sites.up ≡ s.sites.up) m p c (λ _ _ _. refl))

  same_third_of : (s : State) (m r : ℕ) (c : Cut) → (third_of s m r c).sites.up ≡ s.sites.up
  unfolding take_third hear_third
  same_third_of s m r c =
      either (λ (t : State). t.sites.up ≡ s.sites.up) (late_third w s m r) _ _
      (λ _. refl) (λ _. after_count_third w (hear_third w s m r) (λ t. t.sites.up ≡ s.sites.up) m c (λ _ _ _ _. refl))

  same_deliver_of : (s : State) (m r p : ℕ) (c : Cut) → (deliver_of s m r p c).sites.up ≡ s.sites.up
  unfolding take_deliver
  same_deliver_of s m r p c =
      either (λ (t : State). t.sites.up ≡ s.sites.up) (s.delivers.got p m) _ _
      (λ _. refl) (λ _. after_arrive w s (λ t. t.sites.up ≡ s.sites.up) m p c (λ _ _ _. refl))

  module _ (s : State) (j : Safe w s) (i : LiveOf s) where
    less_up : (c : Cut) (p : ℕ) → LiveAt w (up_after c s.sites.up p) s
    less_up c p = live_less w s.sites.up (up_after c s.sites.up p) s (up_before c s.sites.up p) i

    pub live_does : (e : Event) → Allowed w s e → LiveOf (does w s e)
    live_does (offer m c) ok =
        unfold on_offer in settled c (send_first w s m c) s.sites.up (w.owner m) (unfold send_first in refl)
        (live_offer w (up_after c s.sites.up (w.owner m)) s (less_up c (w.owner m)) m c (all_out c s.sites.up (w.owner m)))
    live_does (first m r p c) ok =
        unfold on_first in settled c (send_second w (see w (take_first w s m r p) m p) m p c) s.sites.up p (unfold send_second see take_first in refl)
        (live_first w (up_after c s.sites.up p) s (less_up c p) m r p c (all_out c s.sites.up p))
    live_does (second m r p c) ok =
        unfold on_second in settled c (second_of s m r p c) s.sites.up p (same_second_of s m r p c) (live_second s j i m r p c)
    live_does (third m r c) ok =
        unfold on_third in settled c (third_of s m r c) s.sites.up (w.owner m) (same_third_of s m r c) (live_third s j i m r c)
    live_does (Event.deliver m r p c) ok =
        unfold on_deliver in settled c (deliver_of s m r p c) s.sites.up p (same_deliver_of s m r p c) (live_deliver s j i m r p c ok.1.receiver ok.0)
    live_does (order m) ok = unfold on_order in unfold append in live_append w s.sites.up s i m
    live_does (read p c) ok =
        unfold on_read in settled c (deliver_at w (advance w s p) p (entry_of w s.oracle.entry (next_at w s p)) c) s.sites.up p
        (unfold deliver_at advance in refl) (unfold deliver_at advance in less_up c p)
    live_does (crash p) ok = unfold down in live_less w s.sites.up (λ a. cond (eqb p a) false (s.sites.up a)) s (λ a h. (drops (eqb p a) (s.sites.up a) h).1) i

  live_blank : LiveOf blank
  unfolding blank
  live_blank = record {
    answering = record { answers = λ m q r k. absurd (nope k refl); steps = λ m r h. absurd (none (λ q. false) h (λ q _. refl)) };
    reporting = record { reports = λ m r k. absurd (nope k refl); ends = λ m h. absurd (none (λ q. false) h (λ q _. refl)) };
    outcomes = record { outcome = λ m k. absurd (nope k refl) };
    relaying = record { relays = λ m q r lq u k. absurd (nope k refl) };
  }
    where
      none : (p : ℕ → Bool) → w.n - w.f ≤ count p w.n → ((q : ℕ) → q < w.n → p q ≡ false) → ⊥
      none p h f = let e = count_none p w.n f in let k = w.few in omega arith

  pub live : {es : List Event} {s : State} → Reached w es s → LiveOf s
  live start = live_blank
  live (next {es} {s} r e ok) = live_does s (safe w r) (live r) e ok

  -- DOWN: at most f sites are down
  lost_down_if : (c : Cut) (s t : State) (p : ℕ) → t.sites.up ≡ s.sites.up → MayCut w s c → lost w s ≤ w.f → lost w (down_if w c t p) ≤ w.f
  lost_down_if whole s t p e may h = subst (λ (v : ℕ → Bool). count (λ a. not (v a)) w.n ≤ w.f) (sym e) h
  lost_down_if (part out) s t p e may h =
      unfold down in subst (λ (v : ℕ → Bool). count (λ a. not (cond (eqb p a) false (v a))) w.n ≤ w.f) (sym e)
      (let k = count_down s.sites.up p w.n in omega arith)

  lost_does : (s : State) (e : Event) → Allowed w s e → lost w s ≤ w.f → lost w (does w s e) ≤ w.f
  lost_does s (offer m c) ok h = unfold on_offer in lost_down_if c s (send_first w s m c) (w.owner m) (unfold send_first in refl) ok.3 h
  lost_does s (first m r p c) ok h =
      unfold on_first in lost_down_if c s (send_second w (see w (take_first w s m r p) m p) m p c) p (unfold send_second see take_first in refl) ok.1.may_cut h
  lost_does s (second m r p c) ok h = unfold on_second in lost_down_if c s (second_of s m r p c) p (same_second_of s m r p c) ok.1.may_cut h
  lost_does s (third m r c) ok h = unfold on_third in lost_down_if c s (third_of s m r c) (w.owner m) (same_third_of s m r c) ok.1.may_cut h
  lost_does s (Event.deliver m r p c) ok h = unfold on_deliver in lost_down_if c s (deliver_of s m r p c) p (same_deliver_of s m r p c) ok.1.may_cut h
  lost_does s (order m) ok h = unfold on_order in unfold append in h
  lost_does s (read p c) ok h =
      unfold on_read in lost_down_if c s (deliver_at w (advance w s p) p (entry_of w s.oracle.entry (next_at w s p)) c) p (unfold deliver_at advance in refl) ok.3 h
  lost_does s (crash p) ok h = lost_down_if (part (λ _. false)) s s p refl ok.2 h

  pub few_lost : {es : List Event} {s : State} → Reached w es s → lost w s ≤ w.f
  few_lost start = unfold blank in let h = count_none (λ p. false) w.n (λ _ _. refl) in omega arith
  few_lost (next {es} {s} r e ok) = lost_does s e ok (few_lost r)

  -- what a site that is up has at the end
  module _ (s : State) (i : RecordsOf w s) (quiet : Quiet w s) where
    -- the whole log
    pub has_log : (p x : ℕ) → p < w.n → s.sites.up p ≡ true → In x (expand w s.oracle.entry s.oracle.log) → In x (s.sites.delivered p)
    has_log p x lp up m =
        let at = i.each p in
        let e : at.done ≡ expand w s.oracle.entry s.oracle.log =
        at.all_read up ∙ ap (expand w s.oracle.entry) (take_all (s.sites.place p) s.oracle.log (quiet.all_read p lp up)) in
        at.reads.all x (rw e m)

    -- what is on its way to it
    pub has_coming : (p x : ℕ) → p < w.n → s.sites.up p ≡ true → Comes w s.delivers x p → In x (s.sites.delivered p)
    has_coming p x lp up (inl g) = (i.each p).all_got up x g
    has_coming p x lp up (inr h) = absurd (nope h.2 (quiet.no_deliver x h.0 p h.1 lp up))

    -- n - f sites are up: what all of them did reached n - f
    enough_up : lost w s ≤ w.f → (q : ℕ → Bool) → ((p : ℕ) → p < w.n → s.sites.up p ≡ true → q p ≡ true) → w.n - w.f ≤ count q w.n
    enough_up few q h =
        let up = count_mono s.sites.up q w.n h in
        let all = count_not s.sites.up w.n in
        omega arith

    module _ (live : LiveOf s) (few : lost w s ≤ w.f) (m : ℕ) (known : s.offered m ≡ true) (up : s.sites.up (w.owner m) ≡ true) where
      all_step : (r : ℕ) → r < w.n → s.sites.up r ≡ true → s.sets.stepped r m ≡ true
      all_step r lr ur = elim (test (s.sets.stepped r m)) [
        | inl t ↦ t
        | inr t ↦ live.answering.steps m r (enough_up few (λ q. s.seconds.heard m q r) (λ q lq uq.
            elim (live.answering.answers m q r known up lq uq lr ur) [
              | inl h ↦ absurd (nope h (quiet.no_first m (w.owner m) q (w.owned m) lq uq))
              | inr h ↦ elim h [
                | inl k ↦ absurd (nope k (quiet.no_second m q r lq lr ur))
                | inr k ↦ elim k [ inl g ↦ g | inr g ↦ absurd (nope g t) ]
              ]
            ]))
      ]

      ends_all : s.finished m ≡ true
      ends_all = elim (test (s.finished m)) [
        | inl t ↦ t
        | inr t ↦ live.reporting.ends m (enough_up few (λ r. s.thirds.heard m r) (λ r lr ur.
            elim (live.reporting.reports m r (all_step r lr ur) ur up) [
              | inl h ↦ absurd (nope h (quiet.no_third m r lr up))
              | inr h ↦ elim h [ inl g ↦ g | inr g ↦ absurd (nope g t) ]
            ]))
      ]

      delivered_all : m < w.bound → (p : ℕ) → p < w.n → s.sites.up p ≡ true → In m (s.sites.delivered p)
      delivered_all lt p lp u = elim (live.outcomes.outcome m ends_all up) [
        | inl h ↦ absurd (nope h (quiet.no_pool m))
        | inr h ↦ elim h [
          | inl k ↦ has_log p m lp u (in_expand w s.oracle.entry m m s.oracle.log k (unfold entry_of in in_right m (members (s.oracle.entry m) w.bound) (m ∷ []) (inl refl)))
          | inr k ↦ elim (k p lp) [
            | inl g ↦ absurd (nope g (quiet.no_deliver m (w.owner m) p (w.owned m) lp u))
            | inr g ↦ (i.each p).all_got u m g
          ]
        ]
      ]

  -- The quiet clause: sites that are up have the same postings, among them all that they offered.
  pub record Agreed (s : State) : Type 0 where
    pub same : (p q x : ℕ) → p < w.n → q < w.n → s.sites.up p ≡ true → s.sites.up q ≡ true → In x (s.sites.delivered p) → In x (s.sites.delivered q)
    pub own : (p x : ℕ) → p < w.n → s.sites.up p ≡ true → s.offered x ≡ true → s.sites.up (w.owner x) ≡ true → In x (s.sites.delivered p)

  pub progress : {es : List Event} {s : State} → Reached w es s → Quiet w s → Agreed s
  progress {es} {s} r quiet = record {
    same = λ p q x lp lq up uq m. elim ((i.each p).came x m) [
      | inl g ↦ has_coming s i quiet q x lq uq (k.relaying.relays x p q lp up g lq uq)
      | inr d ↦ has_log s i quiet q x lq uq (rw (i.each p).split (in_left x (i.each p).done (i.each p).rest d))
    ];
    own = λ p x lp up known uo. delivered_all s i quiet k (few_lost r) x known uo ((safe w r).voting.below x known) p lp up;
  }
    where
      i : RecordsOf w s
      i = records w r

      k : LiveOf s
      k = live r
