-- The ceiling: at most 2n² + n + 1 receipts, orders and readings name one posting, so a run of offered postings comes to an end.
-- Each of them lowers the potential of the posting that it names, nothing raises it, and an offer sets it to the ceiling at most.
-- Rests on Potential and Safety. Assumes nothing.
use Prim.Native.Nat.{ℕ, zero, suc, ◌+◌, ◌*◌, ◌-◌, ◌<◌, ◌≤◌}
use mathlib.Core.Path.{◌≡◌, refl, sym, ap, ◌∙◌}
use mathlib.Core.Logic.{inl, inr}
use mathlib.Core.Bool.{Bool, true, false, cond, not}
use mathlib.Core.List.{List, [], ◌∷◌}
use native.Mathlib.Omega.{arith}
use native.Mathlib.Nat.{add-mul, mul-suc, suc-mul}
use lib.Dec.{eqb, leb}
use lib.ListN.{length}
use Rattle.broadcast.specs.Lists.{In, mem}
use Rattle.broadcast.specs.Counts.{bit, sum, count}
use Rattle.broadcast.specs.Machine.{World, State, Cut, whole, part, down_if, send_first, take_first, see, send_second, hear_second, take_second, hear_third, take_third, take_deliver, get, deliver_at, advance, entry_of}
use Rattle.broadcast.specs.Runs.{heard_of, late_second, late_third, on_offer, on_first, on_second, on_third, on_deliver, on_order, on_read, count_second, count_third, arrive, next_at, Receipt, Event, offer, first, second, third, deliver, order, read, crash, Allowed, does, blank, Reached, start, next, names, spent}
use Rattle.broadcast.proofs.Late.{second_in_time, third_in_time}
use Rattle.broadcast.proofs.Steps.{relay_kept, after_count_second, after_count_third, after_arrive}
use Rattle.broadcast.proofs.Tests.{test, nope, either, not-false, from, eqb_yes, eqb-true}
use Rattle.broadcast.proofs.Counts.{count_le, count_none, sum_none, sum_le}
use Rattle.broadcast.proofs.Lists.{mem_in, in_get_d}
use Rattle.broadcast.proofs.Safety.{Safe, safe, second_named, third_named, deliver_named, got_named, pool_named, log_named}
use Rattle.broadcast.proofs.Sums.{pairs, sum_add, sum_one, sum_bits}
use Rattle.broadcast.proofs.Potential.{potential, unaware, all_unaware, send_first_rises, take_first_falls, see_same, send_second_rises, hear_second_same, take_second_falls, hear_third_same, take_third_falls, take_deliver_falls, count_second_same, conclude_same, arrive_same, deliver_at_same, down_same, append_falls, advance_falls}
use Rattle.broadcast.proofs.Thrift.{offers, offered_does, offered_grows}

-- what an offer adds, and what a posting that is not offered has
square : (n : ℕ) → 1 ≤ n → (n + 1) * (n * 1) + 2 * n + (n - 1) * (n - 1) ≡ 2 * (n * n) + n + 1
square zero h = absurd (omega arith)
square (suc k) h =
    let n = suc k in
    let a : n * 1 ≡ n = omega arith in
    let b : n - 1 ≡ k = omega arith in
    omega (arith, ap (λ (v : ℕ). (n + 1) * v) a, ap (λ (v : ℕ). v * v) b, add-mul n 1 n, mul-suc n k, suc-mul k k)

module _ (w : World) where
  -- the ceiling: of receipts, orders and readings that name one posting
  abbrev pub most : ℕ
  most = 2 * (w.n * w.n) + w.n + 1

  down_if_same : (c : Cut) (s : State) (p x : ℕ) → potential w (down_if w c s p) x ≡ potential w s x
  down_if_same whole s p x = refl
  down_if_same (part out) s p x = down_same w s x p

  module _ (s : State) (i : Safe w s) (x : ℕ) where
    -- each event lowers the potential of the posting that it names, and raises no other
    falls_first : (m r p : ℕ) (c : Cut) → s.firsts m r p ≡ true → Receipt w s r p c → potential w (on_first w s m r p c) x + bit (eqb m x) ≤ potential w s x
    unfolding on_first
    falls_first m r p c here ok =
        let one = take_first w s m r p in
        let two = see w one m p in
        let three = send_second w two m p c in
        omega (
          arith,
          down_if_same c three p x,
          send_second_rises w two x m p c,
          see_same w one x m p,
          take_first_falls w s x m r p here ok.sender ok.receiver,
          add-mul w.n 1 (bit (eqb m x)),
        )

    falls_second : (m r p : ℕ) (c : Cut) → s.seconds.sent m r p ≡ true → Receipt w s r p c → potential w (on_second w s m r p c) x + bit (eqb m x) ≤ potential w s x
    unfolding on_second
    falls_second m r p c here ok =
        let one = hear_second w s m r p in
        let late = late_second w s m r p in
        let out = cond late s (count_second w one m p c) in
        let (less, sent) = either (λ t. (potential w t x ≤ potential w s x) × (t.seconds.sent m r p ≡ true)) late s (count_second w one m p c) (λ _. (omega arith, here)) (λ t.
        let open-m : one.sets.stepped p m ≡ false = unfold hear_second in (second_in_time w s m r p t).1 in (
          omega (arith, count_second_same w one x m p c open-m ok.receiver, hear_second_same w s x m r p),
          after_count_second w one (λ t. t.seconds.sent m r p ≡ true) m p c (λ _ _ _. unfold hear_second in here),
        )) in
        omega (arith, down_if_same c (take_second w out m r p) p x, take_second_falls w out x m r p sent ok.sender ok.receiver)

    same_count_third : 2 ≤ w.n → (m r : ℕ) (c : Cut) → s.finished m ≡ false → potential w (count_third w (hear_third w s m r) m c) x ≤ potential w s x
    unfolding count_third hear_third
    same_count_third two m r c open-m =
        let one = hear_third w s m r in
        let heard = hear_third_same w s x m r in
        either (λ t. potential w t x ≤ potential w s x) (leb (w.n - w.f) (heard_of w one m)) _ _
        (λ _. rw (← heard) (conclude_same w one x m c two open-m (not-false (s.oracle.pool m) (λ h. nope (i.ending.pool_slow m h).done open-m))
        (λ h. nope (i.ending.log_slow m h).done open-m) (λ p. not-false (s.delivers.got p m) (λ h. nope (i.ending.got_fast m p h).done open-m))))
        (λ _. omega arith)

    falls_third : 2 ≤ w.n → (m r : ℕ) (c : Cut) → s.thirds.sent m r ≡ true → Receipt w s r (w.owner m) c
        → potential w (on_third w s m r c) x + bit (eqb m x) ≤ potential w s x
    unfolding on_third
    falls_third two m r c here ok =
        let one = hear_third w s m r in
        let late = late_third w s m r in
        let out = cond late s (count_third w one m c) in
        let (less, sent) = either (λ t. (potential w t x ≤ potential w s x) × (t.thirds.sent m r ≡ true)) late s (count_third w one m c) (λ _. (omega arith, here)) (λ t.
        (same_count_third two m r c (third_in_time w s m r t).1, after_count_third w one (λ t. t.thirds.sent m r ≡ true) m c (λ _ _ _ _. unfold hear_third in here))) in
        omega (arith, down_if_same c (take_third w out m r) (w.owner m) x, take_third_falls w out x m r sent ok.sender)

    -- DELIVER m is in flight, and m is in no entry
    abbrev Flying : ℕ → ℕ → ℕ → State → Type 0
    Flying m r p t = (t.delivers.sent m r p ≡ true) × (t.oracle.pool m ≡ false) × (¬ In m t.oracle.log)

    flying_arrive : (m r p : ℕ) (c : Cut) → Flying m r p s → Flying m r p (arrive w s m p c)
    flying_arrive m r p c h = (
      unfold arrive deliver_at get in relay_kept w s m p c m r p h.0,
      after_arrive w s (λ t. t.oracle.pool m ≡ false) m p c (λ _ _ _. h.1),
      after_arrive w s (λ t. ¬ In m t.oracle.log) m p c (λ _ _ _. h.2),
    )

    falls_deliver : (m r p : ℕ) (c : Cut) → s.delivers.sent m r p ≡ true → Receipt w s r p c
        → potential w (on_deliver w s m r p c) x + bit (eqb m x) ≤ potential w s x
    unfolding on_deliver
    falls_deliver m r p c here ok =
        let fast = i.ending.sent_fast m r p here in
        let got = s.delivers.got p m in
        let out = cond got s (arrive w s m p c) in
        let flying : Flying m r p s = (here, fast.no_pool, fast.no_log) in
        let (less, k) = either (λ t. (potential w t x ≤ potential w s x) × Flying m r p t) got s (arrive w s m p c) (λ _. (omega arith, flying)) (λ fresh.
        (arrive_same w s x m p c ok.receiver fresh, flying_arrive m r p c flying)) in
        omega (arith, down_if_same c (take_deliver w out m r p) p x, take_deliver_falls w out x m r p k.0 k.1 k.2 ok.sender ok.receiver)

    falls_read : (p : ℕ) (c : Cut) → p < w.n → s.sites.place p < length s.oracle.log
        → potential w (on_read w s p c) x + bit (eqb (next_at w s p) x) ≤ potential w s x
    unfolding on_read
    falls_read p c lp more =
        let m = next_at w s p in
        let here : In m s.oracle.log = in_get_d s.oracle.log (s.sites.place p) more in
        let no_pool = not-false (s.oracle.pool m) (λ h. i.ending.pool_log m h here) in
        let one = advance w s p in
        let l = entry_of w s.oracle.entry m in
        omega (
          arith,
          down_if_same c (deliver_at w one p l c) p x,
          deliver_at_same w one x p l c,
          advance_falls w s x p lp more i.ending.log_once no_pool,
        )

    -- an offer of m leaves the others alone
    same_offer : (m : ℕ) (c : Cut) → eqb m x ≡ false → potential w (on_offer w s m c) x ≤ potential w s x
    unfolding on_offer
    same_offer m c off = omega (arith, down_if_same c (send_first w s m c) (w.owner m) x, rw off at (send_first_rises w s x m c))

    -- a posting that is not offered is nowhere
    idle : s.offered x ≡ false → potential w s x ≤ 2 * w.n + (w.n - 1) * (w.n - 1)
    unfolding potential
    idle new =
        let no_pool = not-false (s.oracle.pool x) (λ h. nope (pool_named w s i x h) new) in
        let no_log = not-false (mem x s.oracle.log) (λ h. nope (log_named w s i x (mem_in x s.oracle.log h)) new) in
        let open-x = not-false (s.finished x) (λ h. nope (i.finished_named x h) new) in
        let a = no_pairs (s.firsts x) (λ a b h. i.first_named x a b h) in
        let b = no_pairs (s.seconds.sent x) (λ a b h. second_named w s i x a b h) in
        let c = no_pairs (s.delivers.sent x) (λ a b h. deliver_named w s i x a b h) in
        let d = count_none (s.thirds.sent x) w.n (λ r _. not-false (s.thirds.sent x r) (λ h. nope (third_named w s i x r h) new)) in
        let e = count_le (λ p. not (s.sets.stepped p x)) w.n in
        let f = all_unaware w s x (λ p. not-false (s.delivers.got p x) (λ h. nope (got_named w s i x p h) new)) in
        let g : unaware w s x ≡ w.n - 1 = omega arith in
        rw (no_pool, no_log, open-x) (omega (arith, ap (λ (v : ℕ). (w.n + 1) * v) a, ap (λ (v : ℕ). (w.n - 1) * v) g))
      where
        no_pairs : (q : ℕ → ℕ → Bool) → ((a b : ℕ) → q a b ≡ true → s.offered x ≡ true) → pairs q w.n ≡ 0
        no_pairs q h = sum_none (λ a. count (q a) w.n) w.n (λ a _. count_none (q a) w.n (λ b _. not-false (q a b) (λ k. nope (h a b k) new)))

    -- an offer sets the potential to the ceiling at most
    starts : (c : Cut) → s.offered x ≡ false → potential w (on_offer w s x c) x ≤ most
    unfolding on_offer
    starts c new =
        let rise = rw (eqb_yes x x refl) at (send_first_rises w s x x c) in
        omega (arith, down_if_same c (send_first w s x c) (w.owner x) x, idle new, square w.n (omega (arith, w.owned x)))

    -- what an event names was offered
    named : (e : Event) → Allowed w s e → names w s e x ≡ true → s.offered x ≡ true
    named (offer m c) ok h = absurd (nope h refl)
    named (first m r p c) ok h = rw (← eqb-true m x h) (i.first_named m r p ok.0)
    named (second m r p c) ok h = rw (← eqb-true m x h) (second_named w s i m r p ok.0)
    named (third m r c) ok h = rw (← eqb-true m x h) (third_named w s i m r ok.0)
    named (deliver m r p c) ok h = rw (← eqb-true m x h) (deliver_named w s i m r p ok.0)
    named (order m) ok h = rw (← eqb-true m x h) (pool_named w s i m ok)
    named (read p c) ok h =
        rw (← eqb-true (next_at w s p) x h) (log_named w s i (next_at w s p) (in_get_d s.oracle.log (s.sites.place p) ok.2))
    named (crash p) ok h = absurd (nope h refl)

    falls : 2 ≤ w.n → (e : Event) → Allowed w s e → s.offered x ≡ true → potential w (does w s e) x + bit (names w s e x) ≤ potential w s x
    falls two (offer m c) ok known = let off = not-false (eqb m x) (λ t. nope known (rw (← eqb-true m x t) ok.1)) in omega (arith, same_offer m c off)
    falls two (first m r p c) ok known = falls_first m r p c ok.0 ok.1
    falls two (second m r p c) ok known = falls_second m r p c ok.0 ok.1
    falls two (third m r c) ok known = falls_third two m r c ok.0 ok.1
    falls two (deliver m r p c) ok known = falls_deliver m r p c ok.0 ok.1
    falls two (order m) ok known = unfold on_order in append_falls w s x m ok
    falls two (read p c) ok known = falls_read p c ok.0 ok.2
    falls two (crash p) ok known = omega (arith, down_same w s x p)

  -- an offered posting has spent what its potential lacks; one that is not offered has spent nothing
  pub untouched : {es : List Event} {s : State} (r : Reached w es s) (x : ℕ) → s.offered x ≡ false → spent r x ≡ 0
  unfolding spent
  untouched start x h = refl
  untouched (next {es} {s} r e ok) x h =
      let new : s.offered x ≡ false = not-false (s.offered x) (λ t. nope (offered_grows w s e x t) h) in
      let quiet = not-false (names w s e x) (λ t. nope (named s (safe w r) x e ok t) new) in
      omega (arith, ap bit quiet, untouched r x new)

  -- the event that makes x offered is the offer of x
  begins : (s : State) → Safe w s → (x : ℕ) (e : Event) → offers e x ≡ true → s.offered x ≡ false → potential w (does w s e) x + bit (names w s e x) ≤ most
  begins s i x (offer m c) h new = rw (eqb-true m x h) (omega (arith, starts s i x c new))
  begins s i x (first m r p c) h new = absurd (nope h refl)
  begins s i x (second m r p c) h new = absurd (nope h refl)
  begins s i x (third m r c) h new = absurd (nope h refl)
  begins s i x (deliver m r p c) h new = absurd (nope h refl)
  begins s i x (order m) h new = absurd (nope h refl)
  begins s i x (read p c) h new = absurd (nope h refl)
  begins s i x (crash p) h new = absurd (nope h refl)

  pub within : 2 ≤ w.n → {es : List Event} {s : State} (r : Reached w es s) (x : ℕ) → s.offered x ≡ true → spent r x + potential w s x ≤ most
  unfolding spent
  within two start x h = absurd (nope h (unfold blank in refl))
  within two (next {es} {s} r e ok) x h = elim (from (offers e x) true (s.offered x) (sym (offered_does w s e x) ∙ h)) [
    | inl u ↦ elim (test (s.offered x)) [
      | inl t ↦ omega (arith, falls s (safe w r) x two e ok t, within two r x t)
      | inr f ↦ omega (arith, begins s (safe w r) x e u.0 f, untouched r x f)
    ]
    | inr o ↦ omega (arith, falls s (safe w r) x two e ok o, within two r x o)
  ]

  -- One site alone spends 5 on a posting that conflicts with one it has seen (FIRST, SECOND, THIRD, order, reading), and 5 > 4.
  pub ceiling : 2 ≤ w.n → {es : List Event} {s : State} (r : Reached w es s) (m : ℕ) → spent r m ≤ 2 * (w.n * w.n) + w.n + 1
  ceiling two {es} {s} r m = elim (test (s.offered m)) [
    | inl t ↦ omega (arith, within two r m t)
    | inr f ↦ omega (arith, untouched r m f)
  ]

-- the events that are receipts, orders or readings, and how many of a list are
abbrev pub acts : Event → Bool
acts (offer m c) = false
acts (first m r p c) = true
acts (second m r p c) = true
acts (third m r c) = true
acts (deliver m r p c) = true
acts (order m) = true
acts (read p c) = true
acts (crash p) = false

abbrev pub actions : List Event → ℕ
actions [] = 0
actions (e ∷ es) = bit (acts e) + actions es

module _ (w : World) where
  -- each of them names a posting below the bound
  one : (s : State) → Safe w s → (m : ℕ) → s.offered m ≡ true → 1 ≤ sum (λ x. bit (eqb m x)) w.bound
  one s i m known = omega (arith, ap bit (eqb_yes m m refl), sum_one (λ x. bit (eqb m x)) m w.bound (i.voting.below m known))

  counted : (s : State) → Safe w s → (e : Event) → Allowed w s e → bit (acts e) ≤ sum (λ x. bit (names w s e x)) w.bound
  counted s i (offer m c) ok = omega arith
  counted s i (first m r p c) ok = one s i m (i.first_named m r p ok.0)
  counted s i (second m r p c) ok = one s i m (second_named w s i m r p ok.0)
  counted s i (third m r c) ok = one s i m (third_named w s i m r ok.0)
  counted s i (deliver m r p c) ok = one s i m (deliver_named w s i m r p ok.0)
  counted s i (order m) ok = one s i m (pool_named w s i m ok)
  counted s i (read p c) ok = let m = next_at w s p in one s i m (named w s i m (read p c) ok (eqb_yes m m refl))
  counted s i (crash p) ok = omega arith

  spread : {es : List Event} {s : State} (r : Reached w es s) → actions es ≤ sum (spent r) w.bound
  unfolding spent
  spread start = omega arith
  spread (next {es} {s} r e ok) =
      omega (arith, counted s (safe w r) e ok, spread r, sum_add (λ x. bit (names w s e x)) (spent r) w.bound)

  pub total : 2 ≤ w.n → {es : List Event} {s : State} → Reached w es s
      → actions es ≤ (2 * (w.n * w.n) + w.n + 1) * count s.offered w.bound
  total two {es} {s} r =
      let all = most w in
      let each : (x : ℕ) → spent r x ≤ all * bit (s.offered x) = λ x. elim (test (s.offered x)) [
        | inl t ↦ rw t (omega (arith, ceiling w two r x))
        | inr f ↦ omega (arith, untouched w r x f)
      ] in
      omega (arith, spread r, sum_le (spent r) (λ x. all * bit (s.offered x)) w.bound (λ x _. each x), sum_bits all s.offered w.bound)
