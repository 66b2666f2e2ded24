-- Every state that a run reaches is safe: the invariants of Voting, Tallies and Ending hold, and nothing names a posting that was
-- not offered (N0). Each small step keeps them, each event is a composition of small steps. Rests on Lists, Machine, Runs, Late, Steps, Tests, Voting, Tallies and Ending. Assumes nothing.
use Prim.Native.Nat.{ℕ, ◌-◌, ◌<◌, ◌≤◌}
use mathlib.Core.Path.{◌≡◌, refl, sym, ◌∙◌}
use mathlib.Core.Logic.{inl, inr}
use mathlib.Core.Bool.{Bool, true, false, ◌&&◌}
use mathlib.Core.List.{List}
use lib.Dec.{eqb, leb}
use Rattle.broadcast.specs.Lists.{In}
use Rattle.broadcast.specs.Machine.{World, State, Cut, whole, part, at2, at3, to_all, down, down_if, send_first, take_first, see, send_second, hear_second, take_second, step, send_third, hear_third, take_third, finish, send_deliver, take_deliver, get, deliver_at, append, advance}
use Rattle.broadcast.specs.Runs.{heard_at, heard_of, late_second, late_third, on_offer, on_first, on_second, on_third, on_deliver, on_order, on_read, count_second, count_third, conclude, relay, arrive, Event, offer, first, second, third, deliver, order, read, crash, Allowed, does, blank, Reached, start, next}
use Rattle.broadcast.proofs.Late.{second_in_time, third_in_time}
use Rattle.broadcast.proofs.Steps.{see_new, step_new, finish_new, after_conclude, after_relay}
use Rattle.broadcast.proofs.Tests.{nope, either, and_l, eqb-true, eqb_yes, at2_true, from, stays, drops, leb-true, not-false}
use Rattle.broadcast.proofs.Voting.{Voting, offer_voting, see_voting, send_second_voting, hear_second_voting, take_second_voting, step_voting, count_second_seen}
use Rattle.broadcast.proofs.Tallies.{Tallies, step_tallies, send_third_tallies, hear_third_tallies, take_third_tallies}
use Rattle.broadcast.proofs.Ending.{Ending, EndingOf, Fast, hear_third_ending, flight_ending, finish_ending, send_deliver_ending, conclude_ending, take_deliver_ending, get_ending, append_ending}

module _ (w : World) where
  pub record Safe (s : State) : Type 0 where
    pub voting : Voting w s.offered s.sets s.seconds
    pub tallies : Tallies w s.sets s.thirds
    pub ending : Ending w s.thirds s.finished s.delivers s.oracle
    -- N0, in part
    pub first_named : (m r p : ℕ) → s.firsts m r p ≡ true → s.offered m ≡ true
    pub finished_named : (m : ℕ) → s.finished m ≡ true → s.offered m ≡ true

  -- a posting goes by DELIVER, in a state
  abbrev pub FastIn : State → ℕ → Type 0
  FastIn s m = Fast w s.thirds s.finished s.oracle m

  module _ (s : State) (i : Safe s) where
    -- N0, the rest of it
    pub seen_named : (p m : ℕ) → s.sets.seen p m ≡ true → s.offered m ≡ true
    seen_named p m h = i.voting.named p m h

    pub stepped_named : (p m : ℕ) → s.sets.stepped p m ≡ true → s.offered m ≡ true
    stepped_named p m h = seen_named p m (i.voting.stepped_seen p m h)

    pub second_named : (m r p : ℕ) → s.seconds.sent m r p ≡ true → s.offered m ≡ true
    second_named m r p h = seen_named r m (i.voting.sent_seen m r p h)

    pub third_named : (m r : ℕ) → s.thirds.sent m r ≡ true → s.offered m ≡ true
    third_named m r h = stepped_named r m (i.tallies.sent_stepped m r h)

    pub deliver_named : (m r p : ℕ) → s.delivers.sent m r p ≡ true → s.offered m ≡ true
    deliver_named m r p h = i.finished_named m (i.ending.sent_fast m r p h).done

    pub got_named : (m p : ℕ) → s.delivers.got p m ≡ true → s.offered m ≡ true
    got_named m p h = i.finished_named m (i.ending.got_fast m p h).done

    pub pool_named : (m : ℕ) → s.oracle.pool m ≡ true → s.offered m ≡ true
    pool_named m h = i.finished_named m (i.ending.pool_slow m h).done

    pub log_named : (m : ℕ) → In m s.oracle.log → s.offered m ≡ true
    log_named m h = i.finished_named m (i.ending.log_slow m h).done

    pub entry_named : (m x : ℕ) → In m s.oracle.log → s.oracle.entry m x ≡ true → s.offered x ≡ true
    entry_named m x h e =
        let (r, k) = i.tallies.union_held m x (sym ((i.ending.log_slow m h).union x) ∙ e) in
        stepped_named r x (i.voting.held_stepped r x k)

    -- the small steps
    safe_send_first : (m : ℕ) (c : Cut) → m < w.bound → Safe (send_first w s m c)
    unfolding send_first
    safe_send_first m c lt = record {
      voting = offer_voting w s i.voting m lt;
      tallies = i.tallies;
      ending = i.ending;
      first_named = λ x a b h. elim (from (at2 m (w.owner m) x a && to_all w c b) _ _ h) [
        | inl u ↦ rw (eqb_yes m x (at2_true m (w.owner m) x a (and_l (at2 m (w.owner m) x a) (to_all w c b) u.0)).0)
        | inr o ↦ stays (eqb m x) _ (i.first_named x a b o)
      ];
      finished_named = λ x h. stays (eqb m x) _ (i.finished_named x h);
    }

    safe_take_first : (m r p : ℕ) → Safe (take_first w s m r p)
    unfolding take_first
    safe_take_first m r p = record {
      voting = i.voting;
      tallies = i.tallies;
      ending = i.ending;
      first_named = λ x a b h. i.first_named x a b (drops (at3 m r p x a b) _ h).1;
      finished_named = i.finished_named;
    }

    safe_see : (m p : ℕ) → s.offered m ≡ true → Safe (see w s m p)
    unfolding see
    safe_see m p h = record {
      voting = see_voting w s i.voting m p h;
      tallies = record {
        sent_stepped = i.tallies.sent_stepped;
        heard_stepped = i.tallies.heard_stepped;
        carried_held = i.tallies.carried_held;
        has_held = i.tallies.has_held;
        has_heard = i.tallies.has_heard;
        union_held = i.tallies.union_held;
        carried_all = i.tallies.carried_all;
        union_all = i.tallies.union_all;
      };
      ending = i.ending;
      first_named = i.first_named;
      finished_named = i.finished_named;
    }

    safe_send_second : (m p : ℕ) (c : Cut) → s.sets.seen p m ≡ true → Safe (send_second w s m p c)
    unfolding send_second
    safe_send_second m p c h = record {
      voting = send_second_voting w s i.voting m p c h;
      tallies = i.tallies;
      ending = i.ending;
      first_named = i.first_named;
      finished_named = i.finished_named;
    }

    safe_hear_second : (m r p : ℕ) → s.seconds.sent m r p ≡ true → s.seconds.heard m r p ≡ false → Safe (hear_second w s m r p)
    unfolding hear_second
    safe_hear_second m r p here fresh = record {
      voting = hear_second_voting w s i.voting m r p here fresh;
      tallies = i.tallies;
      ending = i.ending;
      first_named = i.first_named;
      finished_named = i.finished_named;
    }

    safe_take_second : (m r p : ℕ) → Safe (take_second w s m r p)
    unfolding take_second
    safe_take_second m r p = record {
      voting = take_second_voting w s i.voting m r p;
      tallies = i.tallies;
      ending = i.ending;
      first_named = i.first_named;
      finished_named = i.finished_named;
    }

    safe_step : (m p : ℕ) → s.sets.seen p m ≡ true → Safe (step w s m p)
    unfolding step
    safe_step m p h = record {
      voting = step_voting w s i.voting m p h;
      tallies = step_tallies w s i.tallies i.voting m p h;
      ending = i.ending;
      first_named = i.first_named;
      finished_named = i.finished_named;
    }

    safe_send_third : (m p : ℕ) (c : Cut) → s.sets.stepped p m ≡ true → Safe (send_third w s m p c)
    unfolding send_third
    safe_send_third m p c h = record {
      voting = i.voting;
      tallies = send_third_tallies w s i.tallies m p c h;
      ending = flight_ending w s.thirds _ s.finished s.delivers s.oracle (λ _ _. refl) (λ _ _. refl) (λ _ _. refl) i.ending;
      first_named = i.first_named;
      finished_named = i.finished_named;
    }

    safe_hear_third : (m r : ℕ) → s.thirds.sent m r ≡ true → s.finished m ≡ false → Safe (hear_third w s m r)
    unfolding hear_third
    safe_hear_third m r here open-m = record {
      voting = i.voting;
      tallies = hear_third_tallies w s i.tallies m r here;
      ending = hear_third_ending w s i.ending m r open-m;
      first_named = i.first_named;
      finished_named = i.finished_named;
    }

    safe_take_third : (m r : ℕ) → Safe (take_third w s m r)
    unfolding take_third
    safe_take_third m r = record {
      voting = i.voting;
      tallies = take_third_tallies w s i.tallies m r;
      ending = flight_ending w s.thirds _ s.finished s.delivers s.oracle (λ _ _. refl) (λ _ _. refl) (λ _ _. refl) i.ending;
      first_named = i.first_named;
      finished_named = i.finished_named;
    }

    safe_finish : (m : ℕ) → s.offered m ≡ true → Safe (finish w s m)
    unfolding finish
    safe_finish m known = record {
      voting = i.voting;
      tallies = i.tallies;
      ending = finish_ending w s i.ending m;
      first_named = i.first_named;
      finished_named = λ x h. elim (from (eqb m x) _ _ h) [ inl u ↦ rw (← eqb-true m x u.0) known | inr o ↦ i.finished_named x o ];
    }

    safe_send_deliver : (m p : ℕ) (to : ℕ → Bool) → FastIn s m → Safe (send_deliver w s m p to)
    unfolding send_deliver
    safe_send_deliver m p to h = record {
      voting = i.voting;
      tallies = i.tallies;
      ending = send_deliver_ending w s i.ending m p to h;
      first_named = i.first_named;
      finished_named = i.finished_named;
    }

    -- the owner finishes m, which was open
    safe_conclude : (m : ℕ) (c : Cut) → s.finished m ≡ true → w.n - w.f ≤ heard_of w s m → s.oracle.pool m ≡ false → ¬ In m s.oracle.log
        → Safe (conclude w s m c)
    safe_conclude m c done many no_pool no_log =
        after_conclude w s (λ t. EndingOf w t → Safe t) m c
        (λ sent pool entry k. record { voting = i.voting; tallies = i.tallies; ending = k; first_named = i.first_named; finished_named = i.finished_named })
        (conclude_ending w s i.ending m c done many no_pool no_log)

    safe_take_deliver : (m r p : ℕ) → Safe (take_deliver w s m r p)
    unfolding take_deliver
    safe_take_deliver m r p = record {
      voting = i.voting;
      tallies = i.tallies;
      ending = take_deliver_ending w s i.ending m r p;
      first_named = i.first_named;
      finished_named = i.finished_named;
    }

    safe_get : (m p : ℕ) → FastIn s m → Safe (get w s m p)
    unfolding get
    safe_get m p h = record {
      voting = i.voting;
      tallies = i.tallies;
      ending = get_ending w s i.ending m p h;
      first_named = i.first_named;
      finished_named = i.finished_named;
    }

    safe_append : (m : ℕ) → s.oracle.pool m ≡ true → Safe (append w s m)
    unfolding append
    safe_append m h = record {
      voting = i.voting;
      tallies = i.tallies;
      ending = append_ending w s i.ending m h;
      first_named = i.first_named;
      finished_named = i.finished_named;
    }

    -- what a site keeps to itself, these facts do not read
    safe_deliver_at : (p : ℕ) (l : List ℕ) (c : Cut) → Safe (deliver_at w s p l c)
    unfolding deliver_at
    safe_deliver_at p l c = record { voting = i.voting; tallies = i.tallies; ending = i.ending; first_named = i.first_named; finished_named = i.finished_named }

    safe_advance : (p : ℕ) → Safe (advance w s p)
    unfolding advance
    safe_advance p = record { voting = i.voting; tallies = i.tallies; ending = i.ending; first_named = i.first_named; finished_named = i.finished_named }

    safe_down : (p : ℕ) → Safe (down w s p)
    unfolding down
    safe_down p = record { voting = i.voting; tallies = i.tallies; ending = i.ending; first_named = i.first_named; finished_named = i.finished_named }

    safe_down_if : (c : Cut) (p : ℕ) → Safe (down_if w c s p)
    safe_down_if whole p = i
    safe_down_if (part out) p = safe_down p

  -- p steps what it has seen, and sends THIRD
  safe_stepping : (s : State) → Safe s → (m p : ℕ) (c : Cut) → (send_third w (step w s m p) m p c).sets.seen p m ≡ true → Safe (send_third w (step w s m p) m p c)
  safe_stepping s i m p c seen = safe_send_third _ (safe_step s i m p (unfold send_third step in seen)) m p c (step_new w s m p)

  -- the events
  module _ (s : State) (i : Safe s) where
    safe_first : (m r p : ℕ) (c : Cut) → s.firsts m r p ≡ true → Safe (on_first w s m r p c)
    unfolding on_first
    safe_first m r p c h =
        let known : (take_first w s m r p).offered m ≡ true = unfold take_first in i.first_named m r p h in
        let two = safe_see _ (safe_take_first s i m r p) m p known in
        safe_down_if _ (safe_send_second _ two m p c (see_new w _ m p)) c p

    safe_count_second : (m p : ℕ) (c : Cut) → s.offered m ≡ true → Safe (count_second w s m p c)
    unfolding count_second
    safe_count_second m p c known =
        either Safe (leb (w.n - w.f) (heard_at w s m p)) _ _
        (λ last. safe_stepping _ (safe_see s i m _ known) m p c (rw (last, count_second) at (count_second_seen w s m p c last)))
        (λ _. i)

    safe_count_third : (m : ℕ) (c : Cut) → s.offered m ≡ true → s.finished m ≡ false → Safe (count_third w s m c)
    unfolding count_third
    safe_count_third m c known open-m =
        let no_pool : (finish w s m).oracle.pool m ≡ false = unfold finish in not-false (s.oracle.pool m) (λ h. nope (i.ending.pool_slow m h).done open-m) in
        let no_log : ¬ In m (finish w s m).oracle.log = unfold finish in λ h. nope (i.ending.log_slow m h).done open-m in
        either Safe (leb (w.n - w.f) (heard_of w s m)) _ _
        (λ t.
        let many : w.n - w.f ≤ heard_of w (finish w s m) m = unfold finish in leb-true (w.n - w.f) (heard_of w s m) t in
        safe_conclude _ (safe_finish s i m known) m c (finish_new w s m) many no_pool no_log)
        (λ _. i)

    safe_relay : (m p : ℕ) (c : Cut) → FastIn s m → Safe (relay w s m p c)
    unfolding relay
    safe_relay m p c h = either Safe (eqb p (w.owner m)) _ _ (λ _. i) (λ _. safe_send_deliver s i m p _ h)

    safe_arrive : (m p : ℕ) (c : Cut) → FastIn s m → Safe (arrive w s m p c)
    unfolding arrive
    safe_arrive m p c h =
        safe_deliver_at _ (safe_get _ (safe_relay m p c h) m p (after_relay w s (λ t. FastIn t m) m p c (λ _. h))) p _ _

  module _ (s : State) (i : Safe s) where
    safe_second : (m r p : ℕ) (c : Cut) → s.seconds.sent m r p ≡ true → Safe (on_second w s m r p c)
    unfolding on_second
    safe_second m r p c here =
        let known : (hear_second w s m r p).offered m ≡ true = unfold hear_second in second_named s i m r p here in
        safe_down_if _ (safe_take_second _ (either Safe (late_second w s m r p) _ _ (λ _. i) (λ t.
        safe_count_second _ (safe_hear_second s i m r p here (second_in_time w s m r p t).0) m p c known)) m r p) c p

    safe_third : (m r : ℕ) (c : Cut) → s.thirds.sent m r ≡ true → Safe (on_third w s m r c)
    unfolding on_third
    safe_third m r c here =
        let known : (hear_third w s m r).offered m ≡ true = unfold hear_third in third_named s i m r here in
        safe_down_if _ (safe_take_third _ (either Safe (late_third w s m r) _ _ (λ _. i) (λ t.
        let open-m = (third_in_time w s m r t).1 in
        safe_count_third _ (safe_hear_third s i m r here open-m) m c known (unfold hear_third in open-m))) m r) c (w.owner m)

    safe_deliver : (m r p : ℕ) (c : Cut) → s.delivers.sent m r p ≡ true → Safe (on_deliver w s m r p c)
    unfolding on_deliver
    safe_deliver m r p c here =
        safe_down_if _ (safe_take_deliver _ (either Safe (s.delivers.got p m) _ _ (λ _. i) (λ _. safe_arrive s i m p c (i.ending.sent_fast m r p here))) m r p) c p

    pub safe_does : (e : Event) → Allowed w s e → Safe (does w s e)
    safe_does (offer m c) ok = unfold on_offer in safe_down_if _ (safe_send_first s i m c ok.0) c (w.owner m)
    safe_does (first m r p c) ok = safe_first s i m r p c ok.0
    safe_does (second m r p c) ok = safe_second m r p c ok.0
    safe_does (third m r c) ok = safe_third m r c ok.0
    safe_does (deliver m r p c) ok = safe_deliver m r p c ok.0
    safe_does (order m) ok = unfold on_order in safe_append s i m ok
    safe_does (read p c) ok = unfold on_read in safe_down_if _ (safe_deliver_at _ (safe_advance s i p) p _ c) c p
    safe_does (crash p) ok = safe_down s i p

  safe_blank : Safe blank
  unfolding blank
  safe_blank = record {
    voting = record {
      below = λ m h. absurd (nope h refl);
      named = λ p m h. absurd (nope h refl);
      good_sent = λ m r p h. h;
      agreed_heard = λ m r p h. h;
      sent_seen = λ m r p h. h;
      heard_seen = λ m r p h. h;
      apart = λ m x r p q c g h. elim g [ inl k ↦ nope k refl | inr k ↦ nope k refl ];
      major = λ p m h. absurd (nope h refl);
      held_stepped = λ p m h. h;
      stepped_seen = λ p m h. h;
    };
    tallies = record {
      sent_stepped = λ m r h. h;
      heard_stepped = λ m r h. h;
      carried_held = λ m r x h k. h;
      has_held = λ m r h. h;
      has_heard = λ m r h. h;
      union_held = λ m x h. absurd (nope h refl);
      carried_all = λ m r x h k c. h;
      union_all = λ m r x h k c. h;
    };
    ending = record {
      sent_fast = λ m r p h. absurd (nope h refl);
      got_fast = λ m p h. absurd (nope h refl);
      pool_slow = λ m h. absurd (nope h refl);
      log_slow = λ m h. absurd h;
      pool_log = λ m h k. k;
      log_once = tt;
    };
    first_named = λ m r p h. h;
    finished_named = λ m h. h;
  }

  pub safe : {es : List Event} {s : State} → Reached w es s → Safe s
  safe start = safe_blank
  safe (next {es} {s} r e ok) = safe_does s (safe r) e ok
