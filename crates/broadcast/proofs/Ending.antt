-- How a posting ends is settled once (S7, S8): by DELIVER, or by an entry that carries the union of the sets heard. From that,
-- the order's interface: F1, what goes by DELIVER conflicts with nothing in an entry's set; F2, a conflicting entry carries it.
-- Rests on Lists, Counts, Machine, Runs, Tests, Steps, Voting and Tallies. Assumes nothing.
use Prim.Native.Nat.{ℕ, ◌-◌, ◌≤◌}
use mathlib.Core.Path.{◌≡◌, refl, sym, ◌∙◌}
use mathlib.Core.Logic.{◌⊎◌, inl, inr, ⊎_elim, ◌≢◌}
use mathlib.Core.Bool.{Bool, true, false, cond, ◌&&◌, or-false}
use mathlib.Core.List.{[], ◌∷◌}
use native.Mathlib.Omega.{arith}
use lib.Dec.{eqb}
use Rattle.broadcast.specs.Lists.{In, NoRepeat}
use Rattle.broadcast.specs.Counts.{count, majority}
use Rattle.broadcast.specs.Machine.{World, Sets, Thirds, Delivers, Oracle, State, Cut, goes, at3, hear_third, finish, send_deliver, enter_pool, take_deliver, get, append}
use Rattle.broadcast.specs.Runs.{conclude}
use Rattle.broadcast.proofs.Tests.{test, nope, either, and_l, eqb-true, eqb_yes, eqb_no, from, stays, drops, join_cases, not-false}
use Rattle.broadcast.proofs.Counts.{count_some, count_ext, majority_more, majorities_meet, enough}
use Rattle.broadcast.proofs.Lists.{in_cases, in_one, norepeat_snoc}
use Rattle.broadcast.proofs.Steps.{send_deliver_cases, conclude_entry_other, after_conclude}
use Rattle.broadcast.proofs.Voting.{Voting, held_apart}
use Rattle.broadcast.proofs.Tallies.{Tallies}

module _ (w : World) where
  -- the sets of more than half of the sites had m: once m is finished, this decides how it goes
  abbrev pub won : Thirds → ℕ → Bool
  won t m = majority (λ r. t.has m r) w.n

  -- m goes by DELIVER
  pub record Fast (t : Thirds) (finished : ℕ → Bool) (o : Oracle) (m : ℕ) : Type 0 where
    pub done : finished m ≡ true
    pub most : won t m ≡ true
    pub no_pool : o.pool m ≡ false
    pub no_log : ¬ In m o.log

  -- m goes by an entry
  pub record Slow (t : Thirds) (finished : ℕ → Bool) (o : Oracle) (m : ℕ) : Type 0 where
    pub done : finished m ≡ true
    pub most : w.n - w.f ≤ count (λ r. t.heard m r) w.n
    pub union : (x : ℕ) → o.entry m x ≡ t.union m x

  pub record Ending (t : Thirds) (finished : ℕ → Bool) (d : Delivers) (o : Oracle) : Type 0 where
    -- S7
    pub sent_fast : (m r p : ℕ) → d.sent m r p ≡ true → Fast t finished o m
    pub got_fast : (m p : ℕ) → d.got p m ≡ true → Fast t finished o m
    -- S8
    pub pool_slow : (m : ℕ) → o.pool m ≡ true → Slow t finished o m
    pub log_slow : (m : ℕ) → In m o.log → Slow t finished o m
    pub pool_log : (m : ℕ) → o.pool m ≡ true → ¬ In m o.log
    pub log_once : NoRepeat o.log

  abbrev pub EndingOf : State → Type 0
  EndingOf s = Ending s.thirds s.finished s.delivers s.oracle

  -- where a set had m, its sender holds m
  pub won_held : (a : Sets) (t : Thirds) → Tallies w a t → (m : ℕ) → won t m ≡ true → (r : ℕ) × (a.held r m ≡ true)
  won_held a t j m h =
      let many = majority_more (λ r. t.has m r) w.n h in
      let (r, lt, k) = count_some (λ r. t.has m r) w.n (omega arith) in
      (r, j.has_held m r k)

  module _ {offered : ℕ → Bool} {finished : ℕ → Bool} (s : State) (v : Voting w offered s.sets s.seconds) (j : Tallies w s.sets s.thirds)
      (i : Ending s.thirds finished s.delivers s.oracle) where
    -- F1
    pub won_apart : (x y : ℕ) → w.conflict x y ≡ true → won s.thirds x ≡ true → won s.thirds y ≡ true → ⊥
    won_apart x y c hx hy =
        let (p, kp) = won_held s.sets s.thirds j x hx in
        let (q, kq) = won_held s.sets s.thirds j y hy in
        held_apart w v p q x y c kp kq

    pub entry_apart : (m x y : ℕ) → w.conflict x y ≡ true → won s.thirds x ≡ true → In m s.oracle.log → s.oracle.entry m y ≡ true → ⊥
    entry_apart m x y c hx k e =
        let (p, kp) = won_held s.sets s.thirds j x hx in
        let (q, kq) = j.union_held m y (sym ((i.log_slow m k).union y) ∙ e) in
        held_apart w v p q x y c kp kq

    -- F2
    pub entry_carries : (x m : ℕ) → w.conflict x m ≡ true → won s.thirds x ≡ true → In m s.oracle.log → s.oracle.entry m x ≡ true
    entry_carries x m c hx k =
        let slow = i.log_slow m k in
        let many = majority_more (λ r. s.thirds.has x r) w.n hx in
        let (r, lt, t, u) = majorities_meet (λ r. s.thirds.has x r) (λ r. s.thirds.heard m r) w.n many
        (enough w.n w.f (count (λ r. s.thirds.heard m r) w.n) w.few slow.most) in
        slow.union x ∙ j.union_all m r x u (j.has_held x r t) (w.symmetric m x ∙ c)

  -- a tally that agrees with another on m ends m the same way
  fast_same : (t t' : Thirds) (fin : ℕ → Bool) (o : Oracle) (m : ℕ) → ((r : ℕ) → t'.has m r ≡ t.has m r) → Fast t fin o m → Fast t' fin o m
  fast_same t t' fin o m e h = record {
    done = h.done;
    most = rw (count_ext (λ r. t'.has m r) (λ r. t.has m r) w.n (λ r _. e r)) h.most;
    no_pool = h.no_pool;
    no_log = h.no_log;
  }

  slow_same : (t t' : Thirds) (fin : ℕ → Bool) (o : Oracle) (m : ℕ) → ((r : ℕ) → t'.heard m r ≡ t.heard m r) → ((x : ℕ) → t'.union m x ≡ t.union m x)
      → Slow t fin o m → Slow t' fin o m
  slow_same t t' fin o m e u h = record {
    done = h.done;
    most = rw (count_ext (λ r. t'.heard m r) (λ r. t.heard m r) w.n (λ r _. e r)) h.most;
    union = λ x. h.union x ∙ sym (u x);
  }

  -- what keeps the way of each posting keeps all of it
  ending_by : (t t' : Thirds) (fin fin' : ℕ → Bool) (d : Delivers) (o : Oracle) → ((x : ℕ) → Fast t fin o x → Fast t' fin' o x)
      → ((x : ℕ) → Slow t fin o x → Slow t' fin' o x) → Ending t fin d o → Ending t' fin' d o
  ending_by t t' fin fin' d o fast slow i = record {
    sent_fast = λ x a b h. fast x (i.sent_fast x a b h);
    got_fast = λ x p h. fast x (i.got_fast x p h);
    pool_slow = λ x h. slow x (i.pool_slow x h);
    log_slow = λ x h. slow x (i.log_slow x h);
    pool_log = i.pool_log;
    log_once = i.log_once;
  }

  -- THIRDs in flight are not read
  pub flight_ending : (t t' : Thirds) (fin : ℕ → Bool) (d : Delivers) (o : Oracle) → ((m r : ℕ) → t'.has m r ≡ t.has m r)
      → ((m r : ℕ) → t'.heard m r ≡ t.heard m r) → ((m x : ℕ) → t'.union m x ≡ t.union m x) → Ending t fin d o → Ending t' fin d o
  flight_ending t t' fin d o has heard union =
      ending_by t t' fin fin d o (λ m. fast_same t t' fin o m (has m)) (λ m. slow_same t t' fin o m (heard m) (union m))

  -- m goes one way: DELIVER m is sent only where m won, an entry of m, with the union, enters the pool only where m did not
  pub record Concluded (s : State) (m : ℕ) (d : Delivers) (o : Oracle) : Type 0 where
    pub sent_won : (x a b : ℕ) → d.sent x a b ≡ true → ((m ≡ x) × (won s.thirds m ≡ true)) ⊎ (s.delivers.sent x a b ≡ true)
    pub pool_lost : (x : ℕ) → o.pool x ≡ true → ((m ≡ x) × (won s.thirds m ≡ false)) ⊎ (s.oracle.pool x ≡ true)
    pub entry_union : won s.thirds m ≡ false → o.pool m ≡ true → (y : ℕ) → o.entry m y ≡ s.thirds.union m y
    pub entry_other : (x y : ℕ) → eqb m x ≡ false → o.entry x y ≡ s.oracle.entry x y

  module _ (s : State) (m : ℕ) (c : Cut) where
    conclude_sent : (x a b : ℕ) → (conclude w s m c).delivers.sent x a b ≡ true
        → ((m ≡ x) × (won s.thirds m ≡ true)) ⊎ (s.delivers.sent x a b ≡ true)
    unfolding conclude enter_pool
    conclude_sent x a b =
        either (λ (t : State). t.delivers.sent x a b ≡ true → ((m ≡ x) × (won s.thirds m ≡ true)) ⊎ (s.delivers.sent x a b ≡ true)) (won s.thirds m) _ _
        (λ t h. ⊎_elim (λ e. inl (e, t)) inr (send_deliver_cases w _ m (w.owner m) _ x a b h))
        (λ _ h. inr h)

    conclude_pool : (x : ℕ) → (conclude w s m c).oracle.pool x ≡ true → ((m ≡ x) × (won s.thirds m ≡ false)) ⊎ (s.oracle.pool x ≡ true)
    unfolding conclude send_deliver enter_pool
    conclude_pool x =
        either (λ (t : State). t.oracle.pool x ≡ true → ((m ≡ x) × (won s.thirds m ≡ false)) ⊎ (s.oracle.pool x ≡ true)) (won s.thirds m) _ _
        (λ _ h. inr h)
        (λ f h. elim (from (eqb m x && goes c (w.owner m)) true (s.oracle.pool x) h) [
          | inl u ↦ inl (eqb-true m x (and_l (eqb m x) (goes c (w.owner m)) u.0), f)
          | inr o ↦ inr o
        ])

    conclude_entry : won s.thirds m ≡ false → s.oracle.pool m ≡ false → (conclude w s m c).oracle.pool m ≡ true
        → (y : ℕ) → (conclude w s m c).oracle.entry m y ≡ s.thirds.union m y
    unfolding conclude enter_pool
    conclude_entry f none =
        either (λ (t : State). t.oracle.pool m ≡ true → (y : ℕ) → t.oracle.entry m y ≡ s.thirds.union m y) (won s.thirds m) _ _
        (λ t. absurd (nope t f))
        (λ _ h y. elim (test (eqb m m && goes c (w.owner m))) [ inl u ↦ rw u | inr u ↦ absurd (nope (rw u at h) none) ])

    pub concludes : s.oracle.pool m ≡ false → Concluded s m (conclude w s m c).delivers (conclude w s m c).oracle
    concludes none = record {
      sent_won = conclude_sent;
      pool_lost = conclude_pool;
      entry_union = λ f. conclude_entry f none;
      entry_other = λ x y. conclude_entry_other w s m c x y;
    }

  module _ (s : State) (i : Ending s.thirds s.finished s.delivers s.oracle) where
    -- the tally of a posting that is not finished may change
    pub hear_third_ending : (m r : ℕ) → s.finished m ≡ false → Ending (hear_third w s m r).thirds s.finished s.delivers s.oracle
    unfolding hear_third
    hear_third_ending m r open-m =
        let t = (hear_third w s m r).thirds in
        ending_by s.thirds t s.finished s.finished s.delivers s.oracle
        (λ x h. fast_same s.thirds t s.finished s.oracle x (λ a. rw (other x h.done)) h)
        (λ x h. slow_same s.thirds t s.finished s.oracle x (λ a. rw (other x h.done)) (λ y. simp (other x h.done, or-false)) h) i
      where
        other : (x : ℕ) → s.finished x ≡ true → eqb m x ≡ false
        other x h = eqb_no m x (λ e. nope h (rw e at open-m))

    pub finish_ending : (m : ℕ) → Ending s.thirds (finish w s m).finished s.delivers s.oracle
    unfolding finish
    finish_ending m =
        ending_by s.thirds s.thirds s.finished (finish w s m).finished s.delivers s.oracle
        (λ x h. record { done = stays (eqb m x) _ h.done; most = h.most; no_pool = h.no_pool; no_log = h.no_log })
        (λ x h. record { done = stays (eqb m x) _ h.done; most = h.most; union = h.union }) i

    pub send_deliver_ending : (m p : ℕ) (to : ℕ → Bool) → Fast s.thirds s.finished s.oracle m
        → Ending s.thirds s.finished (send_deliver w s m p to).delivers s.oracle
    send_deliver_ending m p to h = record {
      sent_fast = λ x a b k. elim (send_deliver_cases w s m p to x a b k) [ inl e ↦ rw (← e) h | inr o ↦ i.sent_fast x a b o ];
      got_fast = unfold send_deliver in i.got_fast;
      pool_slow = i.pool_slow;
      log_slow = i.log_slow;
      pool_log = i.pool_log;
      log_once = i.log_once;
    }

    pub take_deliver_ending : (m r p : ℕ) → Ending s.thirds s.finished (take_deliver w s m r p).delivers s.oracle
    unfolding take_deliver
    take_deliver_ending m r p = record {
      sent_fast = λ x a b k. i.sent_fast x a b (drops (at3 m r p x a b) _ k).1;
      got_fast = i.got_fast;
      pool_slow = i.pool_slow;
      log_slow = i.log_slow;
      pool_log = i.pool_log;
      log_once = i.log_once;
    }

    pub get_ending : (m p : ℕ) → Fast s.thirds s.finished s.oracle m → Ending s.thirds s.finished (get w s m p).delivers s.oracle
    unfolding get
    get_ending m p h = record {
      sent_fast = i.sent_fast;
      got_fast = λ x a k. elim (join_cases s.delivers.got p m a x k) [ inl e ↦ rw (← e.1) h | inr o ↦ i.got_fast x a o ];
      pool_slow = i.pool_slow;
      log_slow = i.log_slow;
      pool_log = i.pool_log;
      log_once = i.log_once;
    }

    -- m is finished, and has neither gone by DELIVER nor by an entry yet
    concluded : (m : ℕ) (d : Delivers) (o : Oracle) → Concluded s m d o → d.got ≡ s.delivers.got → o.log ≡ s.oracle.log
        → s.finished m ≡ true → w.n - w.f ≤ count (λ r. s.thirds.heard m r) w.n → s.oracle.pool m ≡ false → ¬ In m s.oracle.log
        → Ending s.thirds s.finished d o
    concluded m d o k same-got same_log fin many no_pool no_log = record {
      sent_fast = λ x a b h. elim (k.sent_won x a b h) [
        | inl u ↦ rw (← u.0) (record { done = fin; most = u.1; no_pool = not_pooled m u.1 no_pool; no_log = rw same_log no_log })
        | inr q ↦ fast x (i.sent_fast x a b q)
      ];
      got_fast = λ x p h. fast x (i.got_fast x p (rw same-got at h));
      pool_slow = λ x h. elim (k.pool_lost x h) [
        | inl u ↦ rw (← u.0) (record { done = fin; most = many; union = k.entry_union u.1 (rw u.0 h) })
        | inr q ↦ slow x (λ e. nope q (rw e at no_pool)) (i.pool_slow x q)
      ];
      log_slow = λ x h. let here = rw same_log at h in slow x (λ e. no_log (rw e here)) (i.log_slow x here);
      pool_log = λ x h. rw same_log (elim (k.pool_lost x h) [ inl u ↦ rw (← u.0) no_log | inr q ↦ i.pool_log x q ]);
      log_once = rw same_log i.log_once;
    }
      where
        not_pooled : (x : ℕ) → won s.thirds x ≡ true → s.oracle.pool x ≡ false → o.pool x ≡ false
        not_pooled x t none = not-false (o.pool x) (λ h. elim (k.pool_lost x h) [ inl u ↦ nope t (rw u.0 at u.1) | inr q ↦ nope q none ])

        fast : (x : ℕ) → Fast s.thirds s.finished s.oracle x → Fast s.thirds s.finished o x
        fast x h = record { done = h.done; most = h.most; no_pool = not_pooled x h.most h.no_pool; no_log = rw same_log h.no_log }

        slow : (x : ℕ) → m ≢ x → Slow s.thirds s.finished s.oracle x → Slow s.thirds s.finished o x
        slow x d h = record { done = h.done; most = h.most; union = λ y. k.entry_other x y (eqb_no m x d) ∙ h.union y }

    pub conclude_ending : (m : ℕ) (c : Cut) → s.finished m ≡ true → w.n - w.f ≤ count (λ r. s.thirds.heard m r) w.n
        → s.oracle.pool m ≡ false → ¬ In m s.oracle.log → EndingOf (conclude w s m c)
    conclude_ending m c fin many no_pool no_log =
        after_conclude w s (λ t. Concluded s m t.delivers t.oracle → EndingOf t) m c
        (λ sent pool entry k. concluded m _ _ k refl refl fin many no_pool no_log) (concludes s m c no_pool)

    pub append_ending : (m : ℕ) → s.oracle.pool m ≡ true → Ending s.thirds s.finished s.delivers (append w s m).oracle
    unfolding append
    append_ending m here = record {
      sent_fast = λ x a b h. fast x (i.sent_fast x a b h);
      got_fast = λ x p h. fast x (i.got_fast x p h);
      pool_slow = λ x h. slow x (i.pool_slow x (drops (eqb m x) _ h).1);
      log_slow = λ x h. slow x (elim (in_cases x s.oracle.log (m ∷ []) h) [ inl k ↦ i.log_slow x k | inr k ↦ i.pool_slow x (rw (in_one k) here) ]);
      pool_log = λ x h k.
          let d = drops (eqb m x) _ h in
          elim (in_cases x s.oracle.log (m ∷ []) k) [
            | inl o ↦ i.pool_log x d.1 o
            | inr o ↦ nope (eqb_yes m x (sym (in_one o))) d.0
          ];
      log_once = norepeat_snoc m s.oracle.log i.log_once (i.pool_log m here);
    }
      where
        fast : (x : ℕ) → Fast s.thirds s.finished s.oracle x → Fast s.thirds s.finished (append w s m).oracle x
        fast x h = record {
          done = h.done;
          most = h.most;
          no_pool = off (eqb m x) h.no_pool;
          no_log = λ k. elim (in_cases x s.oracle.log (m ∷ []) k) [ inl o ↦ h.no_log o | inr o ↦ nope here (rw (in_one o) at h.no_pool) ];
        }
          where
            off : (b : Bool) → s.oracle.pool x ≡ false → cond b false (s.oracle.pool x) ≡ false
            off true e = refl
            off false e = e

        slow : (x : ℕ) → Slow s.thirds s.finished s.oracle x → Slow s.thirds s.finished (append w s m).oracle x
        slow x h = record { done = h.done; most = h.most; union = h.union }
