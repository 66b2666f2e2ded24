-- What a step puts there, and what it leaves as it was. The proofs about runs read the named steps of Runs through these facts,
-- so that each of them says what it needs of a step. Rests on Counts, Machine, Runs and Tests. Assumes nothing.
use Prim.Native.Nat.{ℕ, ◌-◌}
use mathlib.Core.Path.{◌≡◌, refl}
use mathlib.Core.Logic.{◌⊎◌, inl, inr}
use mathlib.Core.Bool.{Bool, true, false, ◌&&◌}
use mathlib.Core.List.{List}
use lib.Dec.{eqb, leb}
use Rattle.broadcast.specs.Counts.{majority}
use Rattle.broadcast.specs.Machine.{World, Sets, State, Cut, goes, at2, set_sets, set_thirds, set_finished, set_delivers, set_oracle, set_sites, see, step, send_third, finish, send_deliver, enter_pool, get, deliver_at}
use Rattle.broadcast.specs.Runs.{heard_at, heard_of, count_second, conclude, count_third, relay, arrive}
use Rattle.broadcast.proofs.Tests.{either, and_l, from, stays, eqb_yes, at2_true, at2_refl, join_new}

module _ (w : World) (s : State) where
  -- what is new
  pub see_new : (m p : ℕ) → (see w s m p).sets.seen p m ≡ true
  unfolding see
  see_new m p = join_new s.sets.seen p m

  pub step_new : (m p : ℕ) → (step w s m p).sets.stepped p m ≡ true
  unfolding step
  step_new m p = join_new s.sets.stepped p m

  pub finish_new : (m : ℕ) → (finish w s m).finished m ≡ true
  unfolding finish
  finish_new m = rw (eqb_yes m m refl)

  pub get_new : (m p : ℕ) → (get w s m p).delivers.got p m ≡ true
  unfolding get
  get_new m p = join_new s.delivers.got p m

  pub send_deliver_new : (m p : ℕ) (to : ℕ → Bool) (q : ℕ) → to q ≡ true → (send_deliver w s m p to).delivers.sent m p q ≡ true
  unfolding send_deliver
  send_deliver_new m p to q h = rw (at2_refl m p, h)

  pub enter_pool_new : (m : ℕ) (c : Cut) → goes c (w.owner m) ≡ true → (enter_pool w s m c).oracle.pool m ≡ true
  unfolding enter_pool
  enter_pool_new m c h = rw (eqb_yes m m refl, h)

  -- DELIVERs are sent of m alone
  pub send_deliver_cases : (m p : ℕ) (to : ℕ → Bool) (x a b : ℕ) → (send_deliver w s m p to).delivers.sent x a b ≡ true → (m ≡ x) ⊎ (s.delivers.sent x a b ≡ true)
  unfolding send_deliver
  send_deliver_cases m p to x a b h = elim (from (at2 m p x a && to b) true (s.delivers.sent x a b) h) [
    | inl u ↦ inl (at2_true m p x a (and_l (at2 m p x a) (to b) u.0)).0
    | inr o ↦ inr o
  ]

  pub arrive_new : (m p : ℕ) (c : Cut) → (arrive w s m p c).delivers.got p m ≡ true
  unfolding arrive deliver_at get
  arrive_new m p c = join_new (relay w s m p c).delivers.got p m

  -- no DELIVER leaves the flight where some are sent
  pub send_deliver_kept : (m p : ℕ) (to : ℕ → Bool) (x a b : ℕ) → s.delivers.sent x a b ≡ true → (send_deliver w s m p to).delivers.sent x a b ≡ true
  unfolding send_deliver
  send_deliver_kept m p to x a b h = stays (at2 m p x a && to b) (s.delivers.sent x a b) h

module _ (w : World) (s : State) where
  pub relay_kept : (m p : ℕ) (c : Cut) (x a b : ℕ) → s.delivers.sent x a b ≡ true → (relay w s m p c).delivers.sent x a b ≡ true
  unfolding relay
  relay_kept m p c x a b h =
      either (λ (t : State). t.delivers.sent x a b ≡ true) (eqb p (w.owner m)) _ _ (λ _. h) (λ _. send_deliver_kept w s m p _ x a b h)

  module _ (m : ℕ) (c : Cut) where
    pub conclude_kept : (x a b : ℕ) → s.delivers.sent x a b ≡ true → (conclude w s m c).delivers.sent x a b ≡ true
    unfolding conclude enter_pool
    conclude_kept x a b h =
        either (λ (t : State). t.delivers.sent x a b ≡ true) (majority (λ r. s.thirds.has m r) w.n) _ _
        (λ _. send_deliver_kept w _ m (w.owner m) _ x a b h) (λ _. h)

    -- no entry but that of m changes
    pub conclude_pool_other : (x : ℕ) → eqb m x ≡ false → (conclude w s m c).oracle.pool x ≡ s.oracle.pool x
    unfolding conclude send_deliver enter_pool
    conclude_pool_other x off =
        either (λ (t : State). t.oracle.pool x ≡ s.oracle.pool x) (majority (λ r. s.thirds.has m r) w.n) _ _ (λ _. cc) (λ _. cc)

    pub conclude_entry_other : (x y : ℕ) → eqb m x ≡ false → (conclude w s m c).oracle.entry x y ≡ s.oracle.entry x y
    unfolding conclude send_deliver enter_pool
    conclude_entry_other x y off =
        either (λ (t : State). t.oracle.entry x y ≡ s.oracle.entry x y) (majority (λ r. s.thirds.has m r) w.n) _ _ (λ _. cc) (λ _. cc)

  -- What does not read the parts that a step may change holds after it as before.
  module _ (P : State → Type 0) where
    pub after_count_second : (m p : ℕ) (c : Cut)
        → ((sets : Sets) (sent : ℕ → ℕ → Bool) (carried : ℕ → ℕ → ℕ → Bool)
        → P (set_thirds (set_sets s sets) (record { sent = sent; carried = carried; heard = s.thirds.heard; has = s.thirds.has; union = s.thirds.union })))
        → P (count_second w s m p c)
    unfolding count_second send_third step see
    after_count_second m p c h = either P (leb (w.n - w.f) (heard_at w s m p)) _ _ (λ _. h _ _ _) (λ _. h _ _ _)

    pub after_conclude : (m : ℕ) (c : Cut)
        → ((sent : ℕ → ℕ → ℕ → Bool) (pool : ℕ → Bool) (entry : ℕ → ℕ → Bool)
        → P (set_oracle (set_delivers s (record { sent = sent; got = s.delivers.got })) (record { pool = pool; entry = entry; log = s.oracle.log })))
        → P (conclude w s m c)
    unfolding conclude send_deliver enter_pool
    after_conclude m c h = either P (majority (λ r. s.thirds.has m r) w.n) _ _ (λ _. h _ _ _) (λ _. h _ _ _)

    pub after_relay : (m p : ℕ) (c : Cut) → ((sent : ℕ → ℕ → ℕ → Bool) → P (set_delivers s (record { sent = sent; got = s.delivers.got }))) → P (relay w s m p c)
    unfolding relay send_deliver
    after_relay m p c h = either P (eqb p (w.owner m)) _ _ (λ _. h _) (λ _. h _)

    after_deliver_at : (p : ℕ) (l : List ℕ) (c : Cut)
        → ((delivered : ℕ → List ℕ) → P (set_sites s (record { up = s.sites.up; place = s.sites.place; delivered = delivered }))) → P (deliver_at w s p l c)
    unfolding deliver_at
    after_deliver_at p l c h = h _

module _ (w : World) (s : State) (P : State → Type 0) where
  pub after_count_third : (m : ℕ) (c : Cut)
      → ((finished : ℕ → Bool) (sent : ℕ → ℕ → ℕ → Bool) (pool : ℕ → Bool) (entry : ℕ → ℕ → Bool)
      → P (set_oracle (set_delivers (set_finished s finished) (record { sent = sent; got = s.delivers.got })) (record { pool = pool; entry = entry; log = s.oracle.log })))
      → P (count_third w s m c)
  unfolding count_third finish
  after_count_third m c h =
      either P (leb (w.n - w.f) (heard_of w s m)) _ _ (λ _. after_conclude w (finish w s m) P m c (h (finish w s m).finished)) (λ _. h _ _ _ _)

  pub after_arrive : (m p : ℕ) (c : Cut)
      → ((sent : ℕ → ℕ → ℕ → Bool) (got : ℕ → ℕ → Bool) (delivered : ℕ → List ℕ)
      → P (set_sites (set_delivers s (record { sent = sent; got = got })) (record { up = s.sites.up; place = s.sites.place; delivered = delivered })))
      → P (arrive w s m p c)
  unfolding arrive get
  after_arrive m p c h = after_deliver_at w _ P p _ _ (λ delivered.
      after_relay w s (λ t. P (set_sites (get w t m p) (record { up = t.sites.up; place = t.sites.place; delivered = delivered }))) m p c (λ sent. h sent _ delivered))
