-- Uniform agreement (U): when nothing is left to do, a posting in the record of any site, up or down, is in the record of every site
-- that is up. It holds because a delivery follows its relays. Nothing else rests on it. Rests on Lists, Machine, Runs, Late, Steps, Tests, Ending, Safety, Records, Live and Progress. Assumes nothing.
use Prim.Native.Nat.{ℕ, ◌-◌, ◌<◌}
use mathlib.Core.Path.{◌≡◌, refl, ◌∙◌}
use mathlib.Core.Logic.{◌⊎◌, inl, inr}
use mathlib.Core.Bool.{Bool, true, false, ◌&&◌}
use mathlib.Core.List.{List, [], ◌∷◌}
use lib.Dec.{eqb, leb}
use lib.ListN.{length}
use Rattle.broadcast.specs.Lists.{In}
use Rattle.broadcast.specs.Deliveries.{members}
use Rattle.broadcast.specs.Machine.{World, Delivers, Oracle, State, Cut, whole, part, lasts, at2, at3, entry_of, expand, down, down_if, send_first, take_first, see, send_second, hear_second, take_second, hear_third, take_third, finish, take_deliver, get, deliver_at, append, advance}
use Rattle.broadcast.specs.Runs.{heard_of, late_second, late_third, on_offer, on_first, on_second, on_third, on_deliver, on_order, on_read, count_third, conclude, relay, arrive, next_at, Event, offer, first, second, third, order, read, crash, Allowed, does, blank, Reached, start, next, Quiet}
use Rattle.broadcast.proofs.Late.{third_in_time}
use Rattle.broadcast.proofs.Steps.{get_new, arrive_new, conclude_kept, conclude_entry_other, relay_kept, after_count_second, after_conclude, after_relay}
use Rattle.broadcast.proofs.Tests.{test, nope, either, and_l, stays, drops, eqb_no, at3_true}
use Rattle.broadcast.proofs.Lists.{in_left, in_right, in_one, in_get_d, in_members, deliver_all_cases}
use Rattle.broadcast.proofs.Ending.{Fast}
use Rattle.broadcast.proofs.Safety.{Safe, safe, entry_named}
use Rattle.broadcast.proofs.Records.{entry_in, in_expand, records}
use Rattle.broadcast.proofs.Live.{Comes, live_relay}
use Rattle.broadcast.proofs.Progress.{LiveOf, live, second_of, third_of, deliver_of, has_log, has_coming}

module _ (w : World) where
  -- x stands in the log: as an entry's posting, or in an entry's set
  abbrev pub Logged : Oracle → ℕ → Type 0
  Logged o x = In x o.log ⊎ ((k : ℕ) × In k o.log × (o.entry k x ≡ true))

  -- x reaches every site that is up
  abbrev pub Reaches : (ℕ → Bool) → Delivers → Oracle → ℕ → Type 0
  Reaches up d o x = Logged o x ⊎ ((r : ℕ) → r < w.n → up r ≡ true → Comes w d x r)

  abbrev pub Everywhere : (ℕ → Bool) → Delivers → Oracle → (ℕ → List ℕ) → Type 0
  Everywhere up d o delivered = (q x : ℕ) → In x (delivered q) → Reaches up d o x

  abbrev pub EverywhereAt : (ℕ → Bool) → State → Type 0
  EverywhereAt up s = Everywhere up s.delivers s.oracle s.sites.delivered

  abbrev pub EverywhereOf : State → Type 0
  EverywhereOf s = EverywhereAt s.sites.up s

  -- t follows s: nothing of the log or on its way is lost, and what is new in a record reaches every site that is up
  pub record Follows (s t : State) : Type 0 where
    pub logged : (x : ℕ) → Logged s.oracle x → Logged t.oracle x
    pub coming : (x r : ℕ) → Comes w s.delivers x r → Comes w t.delivers x r
    pub less : (r : ℕ) → t.sites.up r ≡ true → s.sites.up r ≡ true
    pub added : (q x : ℕ) → In x (t.sites.delivered q) → In x (s.sites.delivered q) ⊎ Reaches t.sites.up t.delivers t.oracle x

  everywhere_follows : (s t : State) → Follows s t → EverywhereOf s → EverywhereOf t
  everywhere_follows s t k h q x m = elim (k.added q x m) [
    | inl o ↦ elim (h q x o) [ inl l ↦ inl (k.logged x l) | inr c ↦ inr (λ r lr u. k.coming x r (c r lr (k.less r u))) ]
    | inr n ↦ n
  ]

  follows_then : (s t u : State) → Follows s t → Follows t u → Follows s u
  follows_then s t u k h = record {
    logged = λ x l. h.logged x (k.logged x l);
    coming = λ x r c. h.coming x r (k.coming x r c);
    less = λ r v. k.less r (h.less r v);
    added = λ q x m. elim (h.added q x m) [
      | inl o ↦ elim (k.added q x o) [
        | inl a ↦ inl a
        | inr n ↦ inr (elim n [ inl l ↦ inl (h.logged x l) | inr c ↦ inr (λ r lr v. h.coming x r (c r lr (h.less r v))) ])
      ]
      | inr n ↦ inr n
    ];
  }

  -- a step that touches none of this
  follows_same : (s t : State) → t.oracle ≡ s.oracle → t.delivers ≡ s.delivers → t.sites ≡ s.sites → Follows s t
  follows_same s t o d v = record {
    logged = λ x h. rw o h;
    coming = λ x r h. rw d h;
    less = λ r h. rw v at h;
    added = λ q x h. inl (rw v at h);
  }

  follows_down_if : (s t : State) (c : Cut) (p : ℕ) → Follows s t → Follows s (down_if w c t p)
  follows_down_if s t whole p k = k
  follows_down_if s t (part out) p k = follows_then s t (down w t p) k (unfold down in record {
    logged = λ x h. h;
    coming = λ x r h. h;
    less = λ r u. (drops (eqb p r) (t.sites.up r) u).1;
    added = λ q x h. inl h;
  })

  module _ (s : State) where
    follows_second : (m r p : ℕ) (c : Cut) → Follows s (second_of w s m r p c)
    unfolding take_second hear_second
    follows_second m r p c =
        either (λ (t : State). Follows s (take_second w t m r p)) (late_second w s m r p) _ _
        (λ _. follows_same s _ refl refl refl)
        (λ _. after_count_second w (hear_second w s m r p) (λ t. Follows s (take_second w t m r p)) m p c (λ _ _ _. follows_same s _ refl refl refl))

    -- m is finished: the log's entries and all DELIVERs stay
    follows_conclude : (m : ℕ) (c : Cut) → ¬ In m s.oracle.log → Follows s (conclude w s m c)
    follows_conclude m c not-log =
        after_conclude w s (λ t. ((x a b : ℕ) → s.delivers.sent x a b ≡ true → t.delivers.sent x a b ≡ true)
        → ((x y : ℕ) → eqb m x ≡ false → t.oracle.entry x y ≡ s.oracle.entry x y) → Follows s t) m c
        (λ sent pool entry kept other. record {
          logged = λ x h. elim h [
            | inl k ↦ inl k
            | inr k ↦ inr (k.0, k.1, other k.0 x (eqb_no m k.0 (λ e. not-log (rw e k.1))) ∙ k.2)
          ];
          coming = λ x r h. elim h [ inl g ↦ inl g | inr k ↦ inr (k.0, k.1, kept x k.0 r k.2) ];
          less = λ r h. h;
          added = λ q x h. inl h;
        })
        (conclude_kept w s m c) (conclude_entry_other w s m c)

  module _ (s : State) where
    follows_count_third : (m : ℕ) (c : Cut) → ¬ In m s.oracle.log → Follows s (count_third w s m c)
    unfolding count_third finish
    follows_count_third m c not-log =
        let done = finish w s m in
        either (Follows s) (leb (w.n - w.f) (heard_of w s m)) _ _
        (λ _. follows_then s done _ (follows_same s done refl refl refl) (follows_conclude done m c not-log))
        (λ _. follows_same s s refl refl refl)

    follows_relay : (m p : ℕ) (c : Cut) → Follows s (relay w s m p c)
    follows_relay m p c =
        after_relay w s (λ t. ((x a b : ℕ) → s.delivers.sent x a b ≡ true → t.delivers.sent x a b ≡ true) → Follows s t) m p c
        (λ sent kept. record {
          logged = λ x h. h;
          coming = λ x r h. elim h [ inl g ↦ inl g | inr k ↦ inr (k.0, k.1, kept x k.0 r k.2) ];
          less = λ r h. h;
          added = λ q x h. inl h;
        })
        (relay_kept w s m p c)

    follows_get : (m p : ℕ) → Follows s (get w s m p)
    unfolding get
    follows_get m p = record {
      logged = λ x h. h;
      coming = λ x r h. elim h [ inl g ↦ inl (stays (at2 p m r x) _ g) | inr k ↦ inr k ];
      less = λ r h. h;
      added = λ q x h. inl h;
    }

    -- m is delivered at p, if the step lasts: m is then on its way to every site that is up
    follows_deliver_one : (m p : ℕ) (c : Cut) → (lasts c ≡ true → (r : ℕ) → r < w.n → s.sites.up r ≡ true → Comes w s.delivers m r)
        → Follows s (deliver_at w s p (m ∷ []) c)
    unfolding deliver_at
    follows_deliver_one m p c relayed = record {
      logged = λ x h. h;
      coming = λ x r h. h;
      less = λ r h. h;
      added = λ q x h. elim (test (lasts c && eqb p q)) [
        | inl t ↦ elim (deliver_all_cases (s.sites.delivered q) (m ∷ []) x (rw t at h)) [
          | inl o ↦ inl o
          | inr k ↦ inr (inr (rw (in_one k) (relayed (and_l (lasts c) (eqb p q) t))))
        ]
        | inr f ↦ inl (rw f at h)
      ];
    }

    -- a DELIVER that was got leaves the flight
    follows_take : (m a p : ℕ) → s.delivers.got p m ≡ true → Follows s (take_deliver w s m a p)
    unfolding take_deliver
    follows_take m a p got = record {
      logged = λ x h. h;
      coming = λ x r h. elim h [
        | inl g ↦ inl g
        | inr k ↦ elim (test (at3 m a p x k.0 r)) [
          | inl u ↦ let e = at3_true m a p x k.0 r u in inl (rw (← e.0, ← e.2) got)
          | inr u ↦ inr (k.0, k.1, rw u k.2)
        ]
      ];
      less = λ r h. h;
      added = λ q x h. inl h;
    }

  -- a reading: what is new in the record stands in the log
  follows_read : (s : State) (p : ℕ) (c : Cut) → s.sites.place p < length s.oracle.log
      → Follows s (deliver_at w (advance w s p) p (entry_of w s.oracle.entry (next_at w s p)) c)
  unfolding deliver_at advance
  follows_read s p c lt = record {
    logged = λ x h. h;
    coming = λ x r h. h;
    less = λ r h. h;
    added = λ q x h. elim (test (lasts c && eqb p q)) [
      | inl t ↦ elim (deliver_all_cases (s.sites.delivered q) (entry_of w s.oracle.entry k) x (rw t at h)) [
        | inl o ↦ inl o
        | inr e ↦ inr (inl (elim (entry_in w s.oracle.entry k x e) [ inl d ↦ inl (rw d here) | inr d ↦ inr (k, here, d) ]))
      ]
      | inr f ↦ inl (rw f at h)
    ];
  }
    where
      k : ℕ
      k = next_at w s p

      here : In k s.oracle.log
      here = in_get_d s.oracle.log (s.sites.place p) lt

  -- the events
  module _ (s : State) (j : Safe w s) (i : LiveOf w s) where
    follows_third : (m r : ℕ) (c : Cut) → Follows s (third_of w s m r c)
    unfolding take_third hear_third
    follows_third m r c =
        let one = hear_third w s m r in
        either (λ (t : State). Follows s (take_third w t m r)) (late_third w s m r) _ _
        (λ _. follows_same s _ refl refl refl)
        (λ late. follows_then s _ _ (follows_then s one _ (follows_same s one refl refl refl)
        (follows_count_third one m c (λ h. nope (j.ending.log_slow m h).done (third_in_time w s m r late).1))) (follows_same _ _ refl refl refl))

    -- where the step lasts, all relays went out
    relayed : (m p : ℕ) (c : Cut) → p < w.n → s.sites.up p ≡ true → Fast w s.thirds s.finished s.oracle m → lasts c ≡ true
        → (r : ℕ) → r < w.n → (get w (relay w s m p c) m p).sites.up r ≡ true → Comes w (get w (relay w s m p c) m p).delivers m r
    relayed m p whole lp up fast h r lr ur =
        let same : (get w (relay w s m p whole) m p).sites ≡ s.sites = unfold get in after_relay w s (λ t. t.sites ≡ s.sites) m p whole (λ _. refl) in
        (live_relay w s.sites.up s i m p whole lp (λ _ _. refl) fast).relaying.relays m p r lp up (get_new w (relay w s m p whole) m p) lr (rw same at ur)
    relayed m p (part out) lp up fast h r lr ur = absurd (nope h refl)

    -- what is delivered was relayed
    follows_arrive : (m p : ℕ) (c : Cut) → p < w.n → s.sites.up p ≡ true → Fast w s.thirds s.finished s.oracle m → Follows s (arrive w s m p c)
    unfolding arrive
    follows_arrive m p c lp up fast =
        follows_then s _ _ (follows_then s _ _ (follows_relay s m p c) (follows_get (relay w s m p c) m p)) (follows_deliver_one _ m p _ (relayed m p c lp up fast))

    follows_deliver : (m r p : ℕ) (c : Cut) → Allowed w s (Event.deliver m r p c) → Follows s (deliver_of w s m r p c)
    follows_deliver m r p c ok =
        either (λ (t : State). Follows s (take_deliver w t m r p)) (s.delivers.got p m) _ _
        (λ got. follows_take s m r p got)
        (λ _. follows_then s (arrive w s m p c) _ (follows_arrive m p c ok.1.receiver ok.1.up (j.ending.sent_fast m r p ok.0)) (follows_take _ m r p (arrive_new w s m p c)))

    follows_does : (e : Event) → Allowed w s e → Follows s (does w s e)
    follows_does (offer m c) ok = unfold on_offer in follows_down_if s (send_first w s m c) c (w.owner m) (unfold send_first in follows_same s _ refl refl refl)
    follows_does (first m r p c) ok = unfold on_first in follows_down_if s (send_second w (see w (take_first w s m r p) m p) m p c) c p
        (unfold send_second see take_first in follows_same s _ refl refl refl)
    follows_does (second m r p c) ok = unfold on_second in follows_down_if s (second_of w s m r p c) c p (follows_second s m r p c)
    follows_does (third m r c) ok = unfold on_third in follows_down_if s (third_of w s m r c) c (w.owner m) (follows_third m r c)
    follows_does (Event.deliver m r p c) ok = unfold on_deliver in follows_down_if s (deliver_of w s m r p c) c p (follows_deliver m r p c ok)
    follows_does (order m) ok = unfold on_order append in record {
      logged = λ x h. elim h [
        | inl k ↦ inl (in_left x s.oracle.log (m ∷ []) k)
        | inr k ↦ inr (k.0, in_left k.0 s.oracle.log (m ∷ []) k.1, k.2)
      ];
      coming = λ x r h. h;
      less = λ r h. h;
      added = λ q x h. inl h;
    }
    follows_does (read p c) ok =
        unfold on_read in follows_down_if s (deliver_at w (advance w s p) p (entry_of w s.oracle.entry (next_at w s p)) c) c p (follows_read s p c ok.2)
    follows_does (crash p) ok = follows_down_if s s (part (λ _. false)) p (follows_same s s refl refl refl)

  everywhere : {es : List Event} {s : State} → Reached w es s → EverywhereOf s
  everywhere start = unfold blank in λ q x m. absurd m
  everywhere (next {es} {s} r e ok) = everywhere_follows s (does w s e) (follows_does s (safe w r) (live w r) e ok) (everywhere r)

  -- a posting of the log is delivered by those who have read it
  logged_expand : (s : State) → Safe w s → (x : ℕ) → Logged s.oracle x → In x (expand w s.oracle.entry s.oracle.log)
  unfolding entry_of
  logged_expand s j x h = elim h [
    | inl k ↦ in_expand w s.oracle.entry x x s.oracle.log k (in_right x (members (s.oracle.entry x) w.bound) (x ∷ []) (inl refl))
    | inr k ↦
        let lt = j.voting.below x (entry_named w s j k.0 x k.1 k.2) in
        in_expand w s.oracle.entry k.0 x s.oracle.log k.1
        (in_left x (members (s.oracle.entry k.0) w.bound) (k.0 ∷ []) (in_members (s.oracle.entry k.0) x w.bound lt k.2))
  ]

  pub uniform : {es : List Event} {s : State} → Reached w es s → Quiet w s
      → (q r x : ℕ) → In x (s.sites.delivered q) → r < w.n → s.sites.up r ≡ true → In x (s.sites.delivered r)
  uniform {es} {s} reached quiet q r x m lr ur = elim (everywhere reached q x m) [
    | inl l ↦ has_log w s (records w reached) quiet r x lr ur (logged_expand s (safe w reached) x l)
    | inr c ↦ has_coming w s (records w reached) quiet r x lr ur (c r lr ur)
  ]
