-- What keeps a run going (L1 to L6), as facts of the sites that are up: a posting's next message is on its way until the step
-- that it asks for is done. `up` is any part of the sites that are up, so that a cut site has nothing to show. Rests on Lists, Counts, Machine, Runs, Tests, Steps and Ending. Assumes nothing.
use Prim.Native.Nat.{ℕ, ◌-◌, ◌<◌, ◌≤◌}
use mathlib.Core.Path.{◌≡◌, sym, ap, ◌∙◌}
use mathlib.Core.Logic.{◌⊎◌, inl, inr, ◌≢◌}
use mathlib.Core.Bool.{Bool, true, false, not, ◌&&◌}
use mathlib.Core.List.{[], ◌∷◌}
use native.Mathlib.Omega.{arith}
use lib.Dec.{eqb, leb}
use Rattle.broadcast.specs.Lists.{In}
use Rattle.broadcast.specs.Counts.{count, majority}
use Rattle.broadcast.specs.Machine.{World, Seconds, Thirds, Delivers, Oracle, State, Cut, goes, at2, at3, join, to_all, send_first, take_first, see, send_second, hear_second, take_second, step, send_third, hear_third, take_third, finish, take_deliver, get, deliver_at, append}
use Rattle.broadcast.specs.Runs.{heard_at, heard_of, count_second, count_third, conclude, relay, arrive}
use Rattle.broadcast.proofs.Tests.{test, nope, either, and_i, from, stays, eqb_no, eqb-true, at2_true, at3_true, at2_refl, join_new, join_cases, ltb_yes, leb-false, same_or}
use Rattle.broadcast.proofs.Counts.{count_ext}
use Rattle.broadcast.proofs.Steps.{finish_new, send_deliver_new, enter_pool_new, conclude_kept, conclude_pool_other, relay_kept, after_conclude, after_relay}
use Rattle.broadcast.proofs.Lists.{in_left, in_right}
use Rattle.broadcast.proofs.Ending.{Fast}

module _ (w : World) where
  pub record Answers (up : ℕ → Bool) (offered : ℕ → Bool) (firsts : ℕ → ℕ → ℕ → Bool) (stepped : ℕ → ℕ → Bool) (b : Seconds) : Type 0 where
    -- L1
    pub answers : (m q r : ℕ) → offered m ≡ true → up (w.owner m) ≡ true → q < w.n → up q ≡ true → r < w.n → up r ≡ true
        → (firsts m (w.owner m) q ≡ true) ⊎ ((b.sent m q r ≡ true) ⊎ ((b.heard m q r ≡ true) ⊎ (stepped r m ≡ true)))
    -- L2
    pub steps : (m r : ℕ) → w.n - w.f ≤ count (λ q. b.heard m q r) w.n → stepped r m ≡ true

  pub record Reports (up : ℕ → Bool) (stepped : ℕ → ℕ → Bool) (t : Thirds) (finished : ℕ → Bool) : Type 0 where
    -- L3
    pub reports : (m r : ℕ) → stepped r m ≡ true → up r ≡ true → up (w.owner m) ≡ true → (t.sent m r ≡ true) ⊎ ((t.heard m r ≡ true) ⊎ (finished m ≡ true))
    -- L4
    pub ends : (m : ℕ) → w.n - w.f ≤ count (λ r. t.heard m r) w.n → finished m ≡ true

  -- L5
  pub record Outcomes (up : ℕ → Bool) (finished : ℕ → Bool) (d : Delivers) (o : Oracle) : Type 0 where
    pub outcome : (m : ℕ) → finished m ≡ true → up (w.owner m) ≡ true
        → (o.pool m ≡ true) ⊎ (In m o.log ⊎ ((q : ℕ) → q < w.n → (d.sent m (w.owner m) q ≡ true) ⊎ (d.got q m ≡ true)))

  -- m is on its way to r, or there
  abbrev pub Comes : Delivers → ℕ → ℕ → Type 0
  Comes d m r = (d.got r m ≡ true) ⊎ ((a : ℕ) × (a < w.n) × (d.sent m a r ≡ true))

  -- L6
  pub record Relays (up : ℕ → Bool) (d : Delivers) : Type 0 where
    pub relays : (m q r : ℕ) → q < w.n → up q ≡ true → d.got q m ≡ true → r < w.n → up r ≡ true → Comes d m r

  pub record Live (up : ℕ → Bool) (offered : ℕ → Bool) (firsts : ℕ → ℕ → ℕ → Bool) (stepped : ℕ → ℕ → Bool) (b : Seconds) (t : Thirds) (finished : ℕ → Bool)
      (d : Delivers) (o : Oracle) : Type 0 where
    pub answering : Answers up offered firsts stepped b
    pub reporting : Reports up stepped t finished
    pub outcomes : Outcomes up finished d o
    pub relaying : Relays up d

  abbrev pub LiveAt : (ℕ → Bool) → State → Type 0
  LiveAt up s = Live up s.offered s.firsts s.sets.stepped s.seconds s.thirds s.finished s.delivers s.oracle

  -- fewer sites are up
  pub live_less : (up up' : ℕ → Bool) (s : State) → ((p : ℕ) → up' p ≡ true → up p ≡ true) → LiveAt up s → LiveAt up' s
  live_less up up' s less i = record {
    answering = record {
      answers = λ m q r k o lq uq lr ur. i.answering.answers m q r k (less (w.owner m) o) lq (less q uq) lr (less r ur);
      steps = i.answering.steps;
    };
    reporting = record {
      reports = λ m r h u o. i.reporting.reports m r h (less r u) (less (w.owner m) o);
      ends = i.reporting.ends;
    };
    outcomes = record { outcome = λ m h o. i.outcomes.outcome m h (less (w.owner m) o) };
    relaying = record { relays = λ m q r lq u g lr v. i.relaying.relays m q r lq (less q u) g lr (less r v) };
  }

  -- a site that is up after a step: all of the step's sends went out
  abbrev pub Full : (ℕ → Bool) → Cut → ℕ → Type 0
  Full up c p = up p ≡ true → (t : ℕ) → goes c t ≡ true

  all_sent : (c : Cut) (t : ℕ) → t < w.n → goes c t ≡ true → to_all w c t ≡ true
  all_sent c t lt g = and_i _ (goes c t) (ltb_yes t w.n lt) g

  -- where all goes out, a posting that is finished goes one way or the other, and a relay goes to every other site
  conclude_goes : (s : State) (m : ℕ) (c : Cut) → ((q : ℕ) → goes c q ≡ true)
      → ((conclude w s m c).oracle.pool m ≡ true) ⊎ ((q : ℕ) → q < w.n → (conclude w s m c).delivers.sent m (w.owner m) q ≡ true)
  unfolding conclude
  conclude_goes s m c full =
      either (λ (t : State). (t.oracle.pool m ≡ true) ⊎ ((q : ℕ) → q < w.n → t.delivers.sent m (w.owner m) q ≡ true))
      (majority (λ r. s.thirds.has m r) w.n) _ _
      (λ _. inr (λ q lq. send_deliver_new w _ m (w.owner m) _ q (all_sent c q lq (full q))))
      (λ _. inl (enter_pool_new w s m c (full (w.owner m))))

  relay_sends : (s : State) (m p q : ℕ) (c : Cut) → eqb p (w.owner m) ≡ false → q < w.n → p ≢ q → goes c q ≡ true → (relay w s m p c).delivers.sent m p q ≡ true
  unfolding relay
  relay_sends s m p q c other lq d out =
      either (λ (t : State). t.delivers.sent m p q ≡ true) (eqb p (w.owner m)) _ _ (λ own. absurd (nope own other))
      (λ _. send_deliver_new w s m p _ q (and_i (not (eqb p q)) (to_all w c q) (ap not (eqb_no p q d)) (all_sent c q lq out)))

  module _ (up : ℕ → Bool) (s : State) (i : LiveAt up s) where
    pub live_offer : (m : ℕ) (c : Cut) → Full up c (w.owner m) → LiveAt up (send_first w s m c)
    unfolding send_first
    live_offer m c full = record {
      answering = record {
        answers = λ x q r k o lq uq lr ur. elim (from (eqb m x) true (s.offered x) k) [
          | inl u ↦ let e = eqb-true m x u.0 in
              let out : to_all w c q ≡ true = all_sent c q lq (full (rw e o) q) in
              inl (rw (e, at2_refl x (w.owner x), out))
          | inr h ↦ elim (i.answering.answers x q r h o lq uq lr ur) [
            | inl a ↦ inl (stays (at2 m (w.owner m) x (w.owner x) && to_all w c q) _ a)
            | inr a ↦ inr a
          ]
        ];
        steps = i.answering.steps;
      };
      reporting = i.reporting;
      outcomes = i.outcomes;
      relaying = i.relaying;
    }

    pub live_first : (m a p : ℕ) (c : Cut) → Full up c p → LiveAt up (send_second w (see w (take_first w s m a p) m p) m p c)
    unfolding send_second see take_first
    live_first m a p c full = record {
      answering = record {
        answers = λ x q r k o lq uq lr ur. elim (i.answering.answers x q r k o lq uq lr ur) [
          | inl h ↦ elim (test (at3 m a p x (w.owner x) q)) [
            | inl u ↦ let e = at3_true m a p x (w.owner x) q u in
                let out : to_all w c r ≡ true = all_sent c r lr (full (rw e.2 uq) r) in
                inr (inl (rw (e.0, e.2, at2_refl x q, out)))
            | inr u ↦ inl (rw u h)
          ]
          | inr h ↦ elim h [
            | inl k ↦ inr (inl (stays (at2 m p x q && to_all w c r) _ k))
            | inr k ↦ inr (inr k)
          ]
        ];
        steps = i.answering.steps;
      };
      reporting = i.reporting;
      outcomes = i.outcomes;
      relaying = i.relaying;
    }

    -- a SECOND that was heard, or is no longer needed, may leave the flight
    pub live_take_second : (m a p : ℕ) → (s.seconds.heard m a p ≡ true) ⊎ (s.sets.stepped p m ≡ true) → LiveAt up (take_second w s m a p)
    unfolding take_second
    live_take_second m a p known = record {
      answering = record {
        answers = λ x q r k o lq uq lr ur. elim (i.answering.answers x q r k o lq uq lr ur) [
          | inl h ↦ inl h
          | inr h ↦ elim h [
            | inl k ↦ elim (test (at3 m a p x q r)) [
              | inl u ↦ let e = at3_true m a p x q r u in inr (inr (rw (← e.0, ← e.1, ← e.2) known))
              | inr u ↦ inr (inl (rw u k))
            ]
            | inr k ↦ inr (inr k)
          ]
        ];
        steps = i.answering.steps;
      };
      reporting = i.reporting;
      outcomes = i.outcomes;
      relaying = i.relaying;
    }

    -- hearing changes no other count
    heard_other : (m a p x q : ℕ) → at2 m p x q ≡ false → heard_at w (hear_second w s m a p) x q ≡ heard_at w s x q
    unfolding hear_second
    heard_other m a p x q off = count_ext (λ r. (hear_second w s m a p).seconds.heard x r q) (λ r. s.seconds.heard x r q) w.n (λ r _.
        elim (test (at3 m a p x r q)) [
          | inl u ↦ let e = at3_true m a p x r q u in absurd (nope (rw (e.0, e.2) (at2_refl x q)) off)
          | inr u ↦ rw u
        ])

    heard_more : (m a p x q r : ℕ) → s.seconds.heard x q r ≡ true → (hear_second w s m a p).seconds.heard x q r ≡ true
    unfolding hear_second
    heard_more m a p x q r h = stays (at3 m a p x q r) _ h

    -- hearing is followed by the step where it is the (n - f)th: the second round's facts
    answers_heard : (m a p : ℕ) (stepped : ℕ → ℕ → Bool) → ((q x : ℕ) → s.sets.stepped q x ≡ true → stepped q x ≡ true)
        → (w.n - w.f ≤ heard_at w (hear_second w s m a p) m p → stepped p m ≡ true) → Answers up s.offered s.firsts stepped (hear_second w s m a p).seconds
    answers_heard m a p stepped more last = record {
      answers = λ x q r k o lq uq lr ur. elim (i.answering.answers x q r k o lq uq lr ur) [
        | inl h ↦ inl h
        | inr h ↦ elim h [
          | inl k ↦ inr (inl (unfold hear_second in k))
          | inr k ↦ elim k [ inl g ↦ inr (inr (inl (heard_more m a p x q r g))) | inr g ↦ inr (inr (inr (more r x g))) ]
        ]
      ];
      steps = λ x q h. elim (test (at2 m p x q)) [
        | inl u ↦ let e = at2_true m p x q u in rw (← e.0, ← e.1) (last (rw (← e.0, ← e.1) at h))
        | inr u ↦ more q x (i.answering.steps x q (rw (← heard_other m a p x q u) h))
      ];
    }

    -- a SECOND is heard and counted
    pub live_count_second : (m a p : ℕ) (c : Cut) → Full up c p → LiveAt up (count_second w (hear_second w s m a p) m p c)
    unfolding count_second send_third step see hear_second
    live_count_second m a p c full = elim (test (leb (w.n - w.f) (heard_at w (hear_second w s m a p) m p))) [
      | inl t ↦ rw (t, count_second) (record {
        answering = answers_heard m a p (join s.sets.stepped p m) (λ q x h. stays (at2 p m q x) _ h) (λ _. join_new s.sets.stepped p m);
        reporting = record {
          reports = λ x r h u o. elim (join_cases s.sets.stepped p m r x h) [
            | inl e ↦ inl (rw (e.1, e.0, at2_refl x r, full (rw e.0 u) (w.owner x)))
            | inr k ↦ elim (i.reporting.reports x r k u o) [ inl g ↦ inl (stays (at2 m p x r && goes c (w.owner m)) _ g) | inr g ↦ inr g ]
          ];
          ends = i.reporting.ends;
        };
        outcomes = i.outcomes;
        relaying = i.relaying;
      })
      | inr t ↦ rw (t, count_second) (record {
        answering = answers_heard m a p s.sets.stepped (λ q x h. h) (λ many. absurd (few t many));
        reporting = i.reporting;
        outcomes = i.outcomes;
        relaying = i.relaying;
      })
    ]
      where
        few : leb (w.n - w.f) (heard_at w (hear_second w s m a p) m p) ≡ false → w.n - w.f ≤ heard_at w (hear_second w s m a p) m p → ⊥
        few t many = let less = leb-false (w.n - w.f) (heard_at w (hear_second w s m a p) m p) t in omega arith

    -- a THIRD that was heard, or is no longer needed, may leave the flight
    pub live_take_third : (m a : ℕ) → (s.thirds.heard m a ≡ true) ⊎ (s.finished m ≡ true) → LiveAt up (take_third w s m a)
    unfolding take_third
    live_take_third m a known = record {
      answering = i.answering;
      reporting = record {
        reports = λ x r h u o. elim (i.reporting.reports x r h u o) [
          | inl k ↦ elim (test (at2 m a x r)) [
            | inl v ↦ let e = at2_true m a x r v in inr (rw (← e.0, ← e.1) known)
            | inr v ↦ inl (rw v k)
          ]
          | inr k ↦ inr k
        ];
        ends = i.reporting.ends;
      };
      outcomes = i.outcomes;
      relaying = i.relaying;
    }

    third_other : (m a x : ℕ) → m ≢ x → heard_of w (hear_third w s m a) x ≡ heard_of w s x
    unfolding hear_third
    third_other m a x off = count_ext (λ r. (hear_third w s m a).thirds.heard x r) (λ r. s.thirds.heard x r) w.n (λ r _. rw (eqb_no m x off))

    third_more : (m a x r : ℕ) → s.thirds.heard x r ≡ true → (hear_third w s m a).thirds.heard x r ≡ true
    unfolding hear_third
    third_more m a x r h = stays (at2 m a x r) _ h

    -- hearing is followed by the end where it is the (n - f)th: the third round's facts
    reports_heard : (m a : ℕ) (finished : ℕ → Bool) → ((x : ℕ) → s.finished x ≡ true → finished x ≡ true)
        → (w.n - w.f ≤ heard_of w (hear_third w s m a) m → finished m ≡ true) → Reports up s.sets.stepped (hear_third w s m a).thirds finished
    reports_heard m a finished more last = record {
      reports = λ x r h u o. elim (i.reporting.reports x r h u o) [
        | inl k ↦ inl (unfold hear_third in k)
        | inr k ↦ elim k [ inl g ↦ inr (inl (third_more m a x r g)) | inr g ↦ inr (inr (more x g)) ]
      ];
      ends = λ x h. elim (same_or m x) [
        | inl e ↦ rw (← e) (last (rw (← e) at h))
        | inr d ↦ more x (i.reporting.ends x (rw (← third_other m a x d) h))
      ];
    }

    -- the (n - f)th THIRD: m is finished, and goes one way or the other
    finish_more : (m a x : ℕ) → s.finished x ≡ true → (finish w (hear_third w s m a) m).finished x ≡ true
    unfolding finish hear_third
    finish_more m a x h = stays (eqb m x) _ h

    live_conclude : (m a : ℕ) (c : Cut) → Full up c (w.owner m) → LiveAt up (conclude w (finish w (hear_third w s m a) m) m c)
    unfolding finish hear_third
    live_conclude m a c full =
        let done = finish w (hear_third w s m a) m in
        after_conclude w done (λ t. ((x q r : ℕ) → done.delivers.sent x q r ≡ true → t.delivers.sent x q r ≡ true)
        → ((x : ℕ) → eqb m x ≡ false → t.oracle.pool x ≡ done.oracle.pool x)
        → (up (w.owner m) ≡ true → (t.oracle.pool m ≡ true) ⊎ ((q : ℕ) → q < w.n → t.delivers.sent m (w.owner m) q ≡ true)) → LiveAt up t) m c
        (λ sent pool entry kept other goes-out. record {
          answering = i.answering;
          reporting = reports_heard m a done.finished (finish_more m a) (λ _. finish_new w (hear_third w s m a) m);
          outcomes = record {
            outcome = λ x h o. elim (test (eqb m x)) [
              | inl e ↦ let d = eqb-true m x e in
                  elim (goes-out (rw d o)) [ inl k ↦ inl (rw (← d) k) | inr k ↦ inr (inr (λ q lq. inl (rw (← d) (k q lq)))) ]
              | inr e ↦ elim (i.outcomes.outcome x (rw e at h) o) [
                | inl k ↦ inl (other x e ∙ k)
                | inr k ↦ elim k [
                  | inl g ↦ inr (inl g)
                  | inr g ↦ inr (inr (λ q lq. elim (g q lq) [ inl v ↦ inl (kept x (w.owner x) q v) | inr v ↦ inr v ]))
                ]
              ]
            ];
          };
          relaying = record {
            relays = λ x q r lq u g lr v. elim (i.relaying.relays x q r lq u g lr v) [ inl k ↦ inl k | inr k ↦ inr (k.0, k.1, kept x k.0 r k.2) ];
          };
        })
        (conclude_kept w done m c) (conclude_pool_other w done m c) (λ u. conclude_goes done m c (full u))

    live_hear_third : (m a : ℕ) → heard_of w (hear_third w s m a) m < w.n - w.f → LiveAt up (hear_third w s m a)
    live_hear_third m a less = record {
      answering = unfold hear_third in i.answering;
      reporting = unfold hear_third in reports_heard m a s.finished (λ x h. h) (λ many. absurd (omega arith));
      outcomes = unfold hear_third in i.outcomes;
      relaying = unfold hear_third in i.relaying;
    }

    -- a THIRD is heard and counted
    pub live_count_third : (m a : ℕ) (c : Cut) → Full up c (w.owner m) → LiveAt up (count_third w (hear_third w s m a) m c)
    unfolding count_third
    live_count_third m a c full =
        either (LiveAt up) (leb (w.n - w.f) (heard_of w (hear_third w s m a) m)) _ _
        (λ _. live_conclude m a c full)
        (λ t. live_hear_third m a (leb-false (w.n - w.f) (heard_of w (hear_third w s m a) m) t))

    -- a DELIVER that was got may leave the flight
    pub live_take_deliver : (m a p : ℕ) → s.delivers.got p m ≡ true → LiveAt up (take_deliver w s m a p)
    unfolding take_deliver
    live_take_deliver m a p known = record {
      answering = i.answering;
      reporting = i.reporting;
      outcomes = record {
        outcome = λ x h o. elim (i.outcomes.outcome x h o) [
          | inl k ↦ inl k
          | inr k ↦ elim k [
            | inl g ↦ inr (inl g)
            | inr g ↦ inr (inr (λ q lq. elim (g q lq) [
              | inl v ↦ elim (test (at3 m a p x (w.owner x) q)) [
                | inl u ↦ let e = at3_true m a p x (w.owner x) q u in inr (rw (← e.0, ← e.2) known)
                | inr u ↦ inl (rw u v)
              ]
              | inr v ↦ inr v
            ]))
          ]
        ];
      };
      relaying = record {
        relays = λ x q r lq u g lr v. elim (i.relaying.relays x q r lq u g lr v) [
          | inl k ↦ inl k
          | inr k ↦ elim (test (at3 m a p x k.0 r)) [
            | inl h ↦ let e = at3_true m a p x k.0 r h in inl (rw (← e.0, ← e.2) known)
            | inr h ↦ inr (k.0, k.1, rw h k.2)
          ]
        ];
      };
    }

    -- the first receipt of DELIVER m at p: p relays, or is the owner, whose own DELIVERs went out
    pub live_relay : (m p : ℕ) (c : Cut) → p < w.n → Full up c p → Fast w s.thirds s.finished s.oracle m → LiveAt up (get w (relay w s m p c) m p)
    unfolding get
    live_relay m p c lp full fast =
        after_relay w s (λ t. ((x a b : ℕ) → s.delivers.sent x a b ≡ true → t.delivers.sent x a b ≡ true)
        → (eqb p (w.owner m) ≡ false → up p ≡ true → (q : ℕ) → q < w.n → p ≢ q → t.delivers.sent m p q ≡ true) → LiveAt up (get w t m p)) m p c
        (λ sent kept out. record {
          answering = i.answering;
          reporting = i.reporting;
          outcomes = record {
            outcome = λ x h o. elim (i.outcomes.outcome x h o) [
              | inl k ↦ inl k
              | inr k ↦ elim k [
                | inl g ↦ inr (inl g)
                | inr g ↦ inr (inr (λ q lq. elim (g q lq) [ inl v ↦ inl (kept x (w.owner x) q v) | inr v ↦ inr (stays (at2 p m q x) _ v) ]))
              ]
            ];
          };
          relaying = record {
            relays = λ x q r lq u g lr v. elim (join_cases s.delivers.got p m q x g) [
              | inl e ↦ elim (test (eqb p (w.owner m))) [
                | inl own ↦
                    let o : up (w.owner m) ≡ true = rw (← eqb-true p (w.owner m) own, e.0) u in
                    elim (i.outcomes.outcome m fast.done o) [
                      | inl k ↦ absurd (nope k fast.no_pool)
                      | inr k ↦ elim k [
                        | inl h ↦ absurd (fast.no_log h)
                        | inr h ↦ elim (h r lr) [
                          | inl d ↦ inr (w.owner m, w.owned m, rw (← e.1) (kept m (w.owner m) r d))
                          | inr d ↦ inl (stays (at2 p m r x) _ (rw (← e.1) d))
                        ]
                      ]
                    ]
                | inr other ↦ elim (same_or p r) [
                  | inl d ↦ inl (rw (d, e.1, at2_refl r x))
                  | inr d ↦ inr (p, lp, rw (← e.1) (out other (rw e.0 u) r lr d))
                ]
              ]
              | inr o ↦ elim (i.relaying.relays x q r lq u o lr v) [
                | inl k ↦ inl (stays (at2 p m r x) _ k)
                | inr k ↦ inr (k.0, k.1, kept x k.0 r k.2)
              ]
            ];
          };
        })
        (relay_kept w s m p c) (λ other u q lq d. relay_sends s m p q c other lq d (full u q))

    pub live_arrive : (m p : ℕ) (c : Cut) → p < w.n → Full up c p → Fast w s.thirds s.finished s.oracle m → LiveAt up (arrive w s m p c)
    unfolding arrive deliver_at
    live_arrive m p c lp full fast = live_relay m p c lp full fast

    -- an entry moves from the pool to the log
    pub live_append : (m : ℕ) → LiveAt up (append w s m)
    unfolding append
    live_append m = record {
      answering = i.answering;
      reporting = i.reporting;
      outcomes = record {
        outcome = λ x h o. elim (i.outcomes.outcome x h o) [
          | inl k ↦ elim (test (eqb m x)) [
            | inl e ↦ inr (inl (in_right x s.oracle.log (m ∷ []) (inl (sym (eqb-true m x e)))))
            | inr e ↦ inl (rw e k)
          ]
          | inr k ↦ elim k [
            | inl g ↦ inr (inl (in_left x s.oracle.log (m ∷ []) g))
            | inr g ↦ inr (inr g)
          ]
        ];
      };
      relaying = i.relaying;
    }
