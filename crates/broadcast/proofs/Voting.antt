-- The first two rounds are safe (N0, S0 to S3, S5): what is seen was offered, a GOOD excludes a GOOD for a conflicting posting
-- from the same site, and no two conflicting postings are held anywhere. Rests on Counts, Machine, Runs, Steps and Tests. Assumes nothing.
use Prim.Native.Nat.{ℕ, ◌*◌, ◌-◌, ◌<◌}
use mathlib.Core.Path.{◌≡◌, ◌∙◌}
use mathlib.Core.Logic.{◌⊎◌, inl, inr}
use mathlib.Core.Bool.{Bool, true, false, ◌&&◌}
use native.Mathlib.Omega.{arith}
use lib.Dec.{eqb, leb}
use Rattle.broadcast.specs.Counts.{count, majority}
use Rattle.broadcast.specs.Machine.{World, Sets, Seconds, State, Cut, at2, at3, with, clear, to_all, joins, see, send_second, hear_second, take_second, step, send_third}
use Rattle.broadcast.specs.Runs.{heard_at, count_second}
use Rattle.broadcast.proofs.Steps.{see_new}
use Rattle.broadcast.proofs.Tests.{test, nope, and_l, and_r, and_i, eqb-true, at2_true, at3_true, from, stays, drops, join_at, join_cases}
use Rattle.broadcast.proofs.Counts.{count_mono, majority_more, majorities_meet, nowhere_none}

module _ (w : World) where
  -- a set without conflicts: no member of it conflicts
  pub clear_says : (q : ℕ → Bool) (m x : ℕ) → clear w q m ≡ true → x < w.bound → q x ≡ true → w.conflict m x ≡ false
  unfolding clear
  clear_says q m x c lt h = elim (test (w.conflict m x)) [
    | inl t ↦ absurd (nope (and_i (q x) (w.conflict m x) h t) (nowhere_none (λ y. q y && w.conflict m y) w.bound c x lt))
    | inr f ↦ f
  ]

  -- a GOOD SECOND of m from r to p exists: in flight, or heard
  abbrev pub Good : Seconds → ℕ → ℕ → ℕ → Type 0
  Good b m r p = (b.good m r p ≡ true) ⊎ (b.agreed m r p ≡ true)

  pub record Voting (offered : ℕ → Bool) (a : Sets) (b : Seconds) : Type 0 where
    pub below : (m : ℕ) → offered m ≡ true → m < w.bound
    pub named : (p m : ℕ) → a.seen p m ≡ true → offered m ≡ true
    pub good_sent : (m r p : ℕ) → b.good m r p ≡ true → b.sent m r p ≡ true
    pub agreed_heard : (m r p : ℕ) → b.agreed m r p ≡ true → b.heard m r p ≡ true
    -- S0
    pub sent_seen : (m r p : ℕ) → b.sent m r p ≡ true → a.seen r m ≡ true
    pub heard_seen : (m r p : ℕ) → b.heard m r p ≡ true → a.seen r m ≡ true
    -- S1
    pub apart : (m x r p q : ℕ) → w.conflict m x ≡ true → Good b m r p → Good b x r q → ⊥
    -- S2
    pub major : (p m : ℕ) → a.held p m ≡ true → w.n < 2 * count (λ r. b.agreed m r p) w.n
    -- S5, in part
    pub held_stepped : (p m : ℕ) → a.held p m ≡ true → a.stepped p m ≡ true
    pub stepped_seen : (p m : ℕ) → a.stepped p m ≡ true → a.seen p m ≡ true

  module _ {offered : ℕ → Bool} {a : Sets} {b : Seconds} (i : Voting offered a b) where
    -- S3
    pub held_apart : (p q m x : ℕ) → w.conflict m x ≡ true → a.held p m ≡ true → a.held q x ≡ true → ⊥
    held_apart p q m x c h k =
        let (r, lt, g, d) = majorities_meet (λ r. b.agreed m r p) (λ r. b.agreed x r q) w.n (i.major p m h) (i.major q x k) in
        i.apart m x r p q c (inr g) (inr d)

    pub good_seen : (m r p : ℕ) → Good b m r p → a.seen r m ≡ true
    good_seen m r p (inl g) = i.sent_seen m r p (i.good_sent m r p g)
    good_seen m r p (inr g) = i.heard_seen m r p (i.agreed_heard m r p g)

    pub seen_below : (p m : ℕ) → a.seen p m ≡ true → m < w.bound
    seen_below p m h = i.below m (i.named p m h)

  -- a posting is offered
  pub offer_voting : (s : State) → Voting s.offered s.sets s.seconds → (m : ℕ) → m < w.bound
      → Voting (with s.offered m) s.sets s.seconds
  offer_voting s i m lt = record {
    below = λ x h. elim (from (eqb m x) true (s.offered x) h) [ inl u ↦ rw (← eqb-true m x u.0) lt | inr o ↦ i.below x o ];
    named = λ p x h. stays (eqb m x) (s.offered x) (i.named p x h);
    good_sent = i.good_sent;
    agreed_heard = i.agreed_heard;
    sent_seen = i.sent_seen;
    heard_seen = i.heard_seen;
    apart = i.apart;
    major = i.major;
    held_stepped = i.held_stepped;
    stepped_seen = i.stepped_seen;
  }

  module _ (s : State) (i : Voting s.offered s.sets s.seconds) where
    -- an offered posting is seen
    pub see_voting : (m p : ℕ) → s.offered m ≡ true → Voting s.offered (see w s m p).sets s.seconds
    unfolding see
    see_voting m p known = record {
      below = i.below;
      named = λ a x h. elim (join_cases s.sets.seen p m a x h) [ inl e ↦ rw (← e.1) known | inr o ↦ i.named a x o ];
      good_sent = i.good_sent;
      agreed_heard = i.agreed_heard;
      sent_seen = λ x a b h. stays (at2 p m a x) _ (i.sent_seen x a b h);
      heard_seen = λ x a b h. stays (at2 p m a x) _ (i.heard_seen x a b h);
      apart = i.apart;
      major = i.major;
      held_stepped = i.held_stepped;
      stepped_seen = λ a x h. stays (at2 p m a x) _ (i.stepped_seen a x h);
    }

    -- where a GOOD comes from after SECONDs of m were sent by p
    sent_good : (m p : ℕ) (c : Cut) (x a b : ℕ) → Good (send_second w s m p c).seconds x a b
        → ((m ≡ x) × (p ≡ a) × (clear w (s.sets.seen p) m ≡ true)) ⊎ Good s.seconds x a b
    unfolding send_second
    sent_good m p c x a b (inl g) = elim (from (at2 m p x a && to_all w c b) _ _ g) [
      | inl u ↦ let e = at2_true m p x a (and_l (at2 m p x a) (to_all w c b) u.0) in inl (e.0, e.1, u.1)
      | inr o ↦ inr (inl o)
    ]
    sent_good m p c x a b (inr g) = inr (inr g)

    -- the later of two GOODs would have found the earlier one in seen
    no_clash : (m p x b : ℕ) → clear w (s.sets.seen p) m ≡ true → Good s.seconds x p b → w.conflict m x ≡ false
    no_clash m p x b c g = let h = good_seen i x p b g in clear_says (s.sets.seen p) m x c (seen_below i p x h) h

    pub send_second_voting : (m p : ℕ) (c : Cut) → s.sets.seen p m ≡ true → Voting s.offered s.sets (send_second w s m p c).seconds
    send_second_voting m p c here = record {
      below = i.below;
      named = i.named;
      good_sent = unfold send_second in λ x a b h. elim (from (at2 m p x a && to_all w c b) _ _ h) [
        | inl u ↦ rw u.0
        | inr o ↦ stays (at2 m p x a && to_all w c b) _ (i.good_sent x a b o)
      ];
      agreed_heard = unfold send_second in i.agreed_heard;
      sent_seen = unfold send_second in λ x a b h. elim (from (at2 m p x a && to_all w c b) _ _ h) [
        | inl u ↦ let e = at2_true m p x a (and_l (at2 m p x a) (to_all w c b) u.0) in rw (← e.0, ← e.1) here
        | inr o ↦ i.sent_seen x a b o
      ];
      heard_seen = unfold send_second in i.heard_seen;
      apart = λ x y r b d cxy g h. elim (sent_good m p c x r b g) [
        | inl u ↦ elim (sent_good m p c y r d h) [
          | inl v ↦ nope cxy (rw (← u.0, ← v.0) (w.irreflexive m))
          | inr o ↦ nope cxy (rw (← u.0) (no_clash m p y d u.2 (rw u.1 o)))
        ]
        | inr o ↦ elim (sent_good m p c y r d h) [
          | inl v ↦ nope cxy (w.symmetric x y ∙ rw (← v.0) (no_clash m p x b v.2 (rw v.1 o)))
          | inr k ↦ i.apart x y r b d cxy o k
        ]
      ];
      major = unfold send_second in i.major;
      held_stepped = i.held_stepped;
      stepped_seen = i.stepped_seen;
    }

    pub take_second_voting : (m r p : ℕ) → Voting s.offered s.sets (take_second w s m r p).seconds
    unfolding take_second
    take_second_voting m r p = record {
      below = i.below;
      named = i.named;
      good_sent = λ x a b h. let d = drops (at3 m r p x a b) _ h in rw d.0 (i.good_sent x a b d.1);
      agreed_heard = i.agreed_heard;
      sent_seen = λ x a b h. i.sent_seen x a b (drops (at3 m r p x a b) _ h).1;
      heard_seen = i.heard_seen;
      apart = λ x y a b c cxy g h. i.apart x y a b c cxy (old x a b g) (old y a c h);
      major = i.major;
      held_stepped = i.held_stepped;
      stepped_seen = i.stepped_seen;
    }
      where
        old : (x a b : ℕ) → Good (take_second w s m r p).seconds x a b → Good s.seconds x a b
        old x a b (inl g) = inl (drops (at3 m r p x a b) _ g).1
        old x a b (inr g) = inr g

    pub hear_second_voting : (m r p : ℕ) → s.seconds.sent m r p ≡ true → s.seconds.heard m r p ≡ false
        → Voting s.offered s.sets (hear_second w s m r p).seconds
    unfolding hear_second
    hear_second_voting m r p here fresh = record {
      below = i.below;
      named = i.named;
      good_sent = i.good_sent;
      agreed_heard = λ x a b h. elim (from (at3 m r p x a b) _ _ h) [
        | inl u ↦ rw u.0
        | inr o ↦ stays (at3 m r p x a b) _ (i.agreed_heard x a b o)
      ];
      sent_seen = i.sent_seen;
      heard_seen = λ x a b h. elim (from (at3 m r p x a b) _ _ h) [
        | inl u ↦ let e = at3_true m r p x a b u.0 in rw (← e.0, ← e.1) (i.sent_seen m r p here)
        | inr o ↦ i.heard_seen x a b o
      ];
      apart = λ x y a b c cxy g h.
          let (b', g') = old x a b g in
          let (c', h') = old y a c h in
          i.apart x y a b' c' cxy g' h';
      major = λ q x h. omega (arith, i.major q x h, count_mono (λ a. s.seconds.agreed x a q) (λ a. (hear_second w s m r p).seconds.agreed x a q) w.n (λ a _. more x a q));
      held_stepped = i.held_stepped;
      stepped_seen = i.stepped_seen;
    }
      where
        old : (x a b : ℕ) → Good (hear_second w s m r p).seconds x a b → (b' : ℕ) × Good s.seconds x a b'
        old x a b (inl g) = (b, inl g)
        old x a b (inr g) = elim (from (at3 m r p x a b) _ _ g) [
          | inl u ↦ let e = at3_true m r p x a b u.0 in (p, inl (rw (← e.0, ← e.1) u.1))
          | inr o ↦ (b, inr o)
        ]

        more : (x a b : ℕ) → s.seconds.agreed x a b ≡ true → (hear_second w s m r p).seconds.agreed x a b ≡ true
        more x a b h = elim (test (at3 m r p x a b)) [
          | inl u ↦ let e = at3_true m r p x a b u in absurd (nope (i.agreed_heard x a b h) (rw (e.0, e.1, e.2) at fresh))
          | inr u ↦ rw u h
        ]

    -- what joins held at a step
    pub step_held : (m p q x : ℕ) → (step w s m p).sets.held q x ≡ true → ((p ≡ q) × (m ≡ x) × (joins w s m p ≡ true)) ⊎ (s.sets.held q x ≡ true)
    unfolding step
    step_held m p q x h = elim (from (at2 p m q x && joins w s m p) _ _ h) [
      | inl u ↦ let e = at2_true p m q x (and_l (at2 p m q x) (joins w s m p) u.0) in inl (e.0, e.1, and_r (at2 p m q x) (joins w s m p) u.0)
      | inr o ↦ inr o
    ]

    pub step_voting : (m p : ℕ) → s.sets.seen p m ≡ true → Voting s.offered (step w s m p).sets s.seconds
    step_voting m p here = record {
      below = i.below;
      named = unfold step in i.named;
      good_sent = i.good_sent;
      agreed_heard = i.agreed_heard;
      sent_seen = unfold step in i.sent_seen;
      heard_seen = unfold step in i.heard_seen;
      apart = i.apart;
      major = λ q x h. elim (step_held m p q x h) [
        | inl u ↦ rw (← u.0, ← u.1) (majority_more (λ r. s.seconds.agreed m r p) w.n (and_l (majority (λ r. s.seconds.agreed m r p) w.n) _ u.2))
        | inr o ↦ i.major q x o
      ];
      held_stepped = λ q x h. elim (step_held m p q x h) [
        | inl u ↦ unfold step in join_at s.sets.stepped p m q x u.0 u.1
        | inr o ↦ unfold step in stays (at2 p m q x) _ (i.held_stepped q x o)
      ];
      stepped_seen = unfold step in λ q x h. elim (join_cases s.sets.stepped p m q x h) [
        | inl e ↦ rw (← e.0, ← e.1) here
        | inr o ↦ i.stepped_seen q x o
      ];
    }

  -- S5: p has seen what it steps
  pub count_second_seen : (s : State) (m p : ℕ) (c : Cut) → leb (w.n - w.f) (heard_at w s m p) ≡ true → (count_second w s m p c).sets.seen p m ≡ true
  unfolding count_second send_third step
  count_second_seen s m p c last = rw (last, count_second) (see_new w s m p)
