-- The third round is safe (S4 to S6): a set carried is a part of what its sender holds, and has all of that which conflicts.
-- Rests on Counts, Machine, Tests and Voting. Assumes nothing.
use Prim.Native.Nat.{ℕ}
use mathlib.Core.Path.{◌≡◌, ◌∙◌}
use mathlib.Core.Logic.{inl, inr}
use mathlib.Core.Bool.{true, false, cond, ◌&&◌, ◌||◌, and-false, or-false}
use lib.Dec.{eqb}
use Rattle.broadcast.specs.Counts.{majority}
use Rattle.broadcast.specs.Machine.{World, Sets, Thirds, State, Cut, goes, at2, joins, step, send_third, hear_third, take_third}
use Rattle.broadcast.proofs.Tests.{test, nope, and_l, and_r, and_i, or_i_l, or_i_r, eqb_yes, at2_true, from, stays, drops}
use Rattle.broadcast.proofs.Voting.{Voting, clear_says, seen_below, step_held}

module _ (w : World) where
  pub record Tallies (a : Sets) (t : Thirds) : Type 0 where
    -- S5
    pub sent_stepped : (m r : ℕ) → t.sent m r ≡ true → a.stepped r m ≡ true
    pub heard_stepped : (m r : ℕ) → t.heard m r ≡ true → a.stepped r m ≡ true
    -- S6
    pub carried_held : (m r x : ℕ) → t.sent m r ≡ true → t.carried m r x ≡ true → a.held r x ≡ true
    pub has_held : (m r : ℕ) → t.has m r ≡ true → a.held r m ≡ true
    pub has_heard : (m r : ℕ) → t.has m r ≡ true → t.heard m r ≡ true
    pub union_held : (m x : ℕ) → t.union m x ≡ true → (r : ℕ) × (a.held r x ≡ true)
    -- S4
    pub carried_all : (m r x : ℕ) → t.sent m r ≡ true → a.held r x ≡ true → w.conflict m x ≡ true → t.carried m r x ≡ true
    pub union_all : (m r x : ℕ) → t.heard m r ≡ true → a.held r x ≡ true → w.conflict m x ≡ true → t.union m x ≡ true

  module _ (s : State) (i : Tallies s.sets s.thirds) where
    -- A step: where m' was stepped before m joins held, m' in seen would have kept m out.
    pub step_tallies : Voting w s.offered s.sets s.seconds → (m p : ℕ) → s.sets.seen p m ≡ true
        → Tallies (step w s m p).sets s.thirds
    step_tallies v m p here = record {
      sent_stepped = unfold step in λ x r h. stays (at2 p m r x) _ (i.sent_stepped x r h);
      heard_stepped = unfold step in λ x r h. stays (at2 p m r x) _ (i.heard_stepped x r h);
      carried_held = λ x r y h c. more r y (i.carried_held x r y h c);
      has_held = λ x r h. more r x (i.has_held x r h);
      has_heard = i.has_heard;
      union_held = λ x y h. let (r, k) = i.union_held x y h in (r, more r y k);
      carried_all = λ x r y h d c. elim (step_held w s v m p r y d) [
        | inl u ↦ absurd (kept_out x r y (i.sent_stepped x r h) c u)
        | inr o ↦ i.carried_all x r y h o c
      ];
      union_all = λ x r y h d c. elim (step_held w s v m p r y d) [
        | inl u ↦ absurd (kept_out x r y (i.heard_stepped x r h) c u)
        | inr o ↦ i.union_all x r y h o c
      ];
    }
      where
        more : (r x : ℕ) → s.sets.held r x ≡ true → (step w s m p).sets.held r x ≡ true
        more r x h = unfold step in stays (at2 p m r x && joins w s m p) _ h

        kept_out : (x r y : ℕ) → s.sets.stepped r x ≡ true → w.conflict x y ≡ true → (p ≡ r) × (m ≡ y) × (joins w s m p ≡ true) → ⊥
        kept_out x r y st c u =
            let free = and_r (majority (λ q. s.seconds.agreed m q p) w.n) _ u.2 in
            let sees : s.sets.seen p x ≡ true = rw u.0 (v.stepped_seen r x st) in
            nope c (w.symmetric x y ∙ rw (← u.1) (clear_says w (s.sets.seen p) m x free (seen_below w v p x sees) sees))

    pub send_third_tallies : (m p : ℕ) (c : Cut) → s.sets.stepped p m ≡ true → Tallies s.sets (send_third w s m p c).thirds
    unfolding send_third
    send_third_tallies m p c st = record {
      sent_stepped = λ x r h. elim (from (at2 m p x r && goes c (w.owner m)) _ _ h) [
        | inl u ↦ let e = place x r u.0 in rw (← e.0, ← e.1) st
        | inr o ↦ i.sent_stepped x r o
      ];
      heard_stepped = i.heard_stepped;
      carried_held = λ x r y h d. elim (test (at2 m p x r && goes c (w.owner m))) [
        | inl u ↦ let e = place x r u in rw (← e.1) (and_l (s.sets.held p y) (eqb m y || w.conflict m y) (rw u at d))
        | inr u ↦ i.carried_held x r y (rw u at h) (rw u at d)
      ];
      has_held = i.has_held;
      has_heard = i.has_heard;
      union_held = i.union_held;
      carried_all = λ x r y h d k. elim (test (at2 m p x r && goes c (w.owner m))) [
        | inl u ↦ let e = place x r u in rw u (and_i (s.sets.held p y) (eqb m y || w.conflict m y) (rw e.1 d) (or_i_r (eqb m y) (w.conflict m y) (rw e.0 k)))
        | inr u ↦ rw u (i.carried_all x r y (rw u at h) d k)
      ];
      union_all = i.union_all;
    }
      where
        place : (x r : ℕ) → at2 m p x r && goes c (w.owner m) ≡ true → (m ≡ x) × (p ≡ r)
        place x r u = at2_true m p x r (and_l (at2 m p x r) (goes c (w.owner m)) u)

    pub hear_third_tallies : (m r : ℕ) → s.thirds.sent m r ≡ true → Tallies s.sets (hear_third w s m r).thirds
    unfolding hear_third
    hear_third_tallies m p here = record {
      sent_stepped = i.sent_stepped;
      heard_stepped = λ x r h. elim (from (at2 m p x r) _ _ h) [
        | inl u ↦ let e = at2_true m p x r u.0 in rw (← e.0, ← e.1) (i.sent_stepped m p here)
        | inr o ↦ i.heard_stepped x r o
      ];
      carried_held = i.carried_held;
      has_held = λ x r h. elim (from (at2 m p x r) _ _ h) [
        | inl u ↦ let e = at2_true m p x r u.0 in rw (← e.0, ← e.1) (i.carried_held m p m here u.1)
        | inr o ↦ i.has_held x r o
      ];
      has_heard = λ x r h. elim (from (at2 m p x r) _ _ h) [
        | inl u ↦ rw u.0
        | inr o ↦ stays (at2 m p x r) _ (i.has_heard x r o)
      ];
      union_held = λ x y h. elim (test (s.thirds.carried m p y)) [
        | inl t ↦ (p, i.carried_held m p y here t)
        | inr f ↦ i.union_held x y (simp (f, and-false, or-false) at h)
      ];
      carried_all = i.carried_all;
      union_all = λ x r y h d c. elim (from (at2 m p x r) _ _ h) [
        | inl u ↦ let e = at2_true m p x r u.0 in
            or_i_r (s.thirds.union x y) _ (and_i (eqb m x) _ (eqb_yes m x e.0) (i.carried_all m p y here (rw e.1 d) (rw e.0 c)))
        | inr o ↦ or_i_l (s.thirds.union x y) _ (i.union_all x r y o d c)
      ];
    }

    pub take_third_tallies : (m r : ℕ) → Tallies s.sets (take_third w s m r).thirds
    unfolding take_third
    take_third_tallies m p = record {
      sent_stepped = λ x r h. i.sent_stepped x r (old x r h);
      heard_stepped = i.heard_stepped;
      carried_held = λ x r y h c. i.carried_held x r y (old x r h) (drops (at2 m p x r) _ c).1;
      has_held = i.has_held;
      has_heard = i.has_heard;
      union_held = i.union_held;
      carried_all = λ x r y h d c. rw (drops (at2 m p x r) _ h).0 (i.carried_all x r y (old x r h) d c);
      union_all = i.union_all;
    }
      where
        old : (x r : ℕ) → cond (at2 m p x r) false (s.thirds.sent x r) ≡ true → s.thirds.sent x r ≡ true
        old x r h = (drops (at2 m p x r) _ h).1
