-- What it says that a SECOND or a THIRD comes late, or does not.
-- Rests on Machine, Runs and Tests. Assumes nothing.
use Prim.Native.Nat.{ℕ, ◌-◌, ◌≤◌}
use mathlib.Core.Path.{◌≡◌}
use mathlib.Core.Logic.{◌⊎◌, inl, inr}
use mathlib.Core.Bool.{true, false, or-true, or-false}
use native.Mathlib.Omega.{arith}
use Rattle.broadcast.specs.Machine.{World, State}
use Rattle.broadcast.specs.Runs.{heard_at, heard_of, late_second, late_third}
use Rattle.broadcast.proofs.Tests.{test, nope, not-false, leb-true}

module _ (w : World) (s : State) (m r : ℕ) where
  -- late: where the sender was heard, and where the step is done
  heard_late : (p : ℕ) → s.seconds.heard m r p ≡ true → late_second w s m r p ≡ true
  heard_late p h = rw h

  stepped_late : (p : ℕ) → s.sets.stepped p m ≡ true → late_second w s m r p ≡ true
  stepped_late p h = simp (h, or-true)

  told_late : s.thirds.heard m r ≡ true → late_third w s m r ≡ true
  told_late h = rw h

  finished_late : s.finished m ≡ true → late_third w s m r ≡ true
  finished_late h = simp (h, or-true)

  -- in time: neither
  pub second_in_time : (p : ℕ) → late_second w s m r p ≡ false → (s.seconds.heard m r p ≡ false) × (s.sets.stepped p m ≡ false)
  second_in_time p h = (not-false (s.seconds.heard m r p) (λ t. nope (heard_late p t) h), not-false (s.sets.stepped p m) (λ t. nope (stepped_late p t) h))

  pub third_in_time : late_third w s m r ≡ false → (s.thirds.heard m r ≡ false) × (s.finished m ≡ false)
  third_in_time h = (not-false (s.thirds.heard m r) (λ t. nope (told_late t) h), not-false (s.finished m) (λ t. nope (finished_late t) h))

  -- nothing else makes one late, provided that n - f heard bring the step about
  pub second_late : (p : ℕ) → (w.n - w.f ≤ heard_at w s m p → s.sets.stepped p m ≡ true) → late_second w s m r p ≡ true
      → (s.seconds.heard m r p ≡ true) ⊎ (s.sets.stepped p m ≡ true)
  second_late p step h = elim (test (s.seconds.heard m r p)) [
    | inl t ↦ inl t
    | inr e ↦ elim (test (s.sets.stepped p m)) [
      | inl t ↦ inr t
      | inr f ↦ let many = simp (e, f, or-false) at h in inr (step (omega (arith, leb-true)))
    ]
  ]

  pub third_late : (w.n - w.f ≤ heard_of w s m → s.finished m ≡ true) → late_third w s m r ≡ true
      → (s.thirds.heard m r ≡ true) ⊎ (s.finished m ≡ true)
  third_late end h = elim (test (s.thirds.heard m r)) [
    | inl t ↦ inl t
    | inr e ↦ elim (test (s.finished m)) [
      | inl t ↦ inr t
      | inr f ↦ let many = simp (e, f, or-false) at h in inr (end (omega (arith, leb-true)))
    ]
  ]
