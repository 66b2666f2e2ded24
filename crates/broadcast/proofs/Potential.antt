-- How much a posting may still cost: its potential, and what each small step does to it. A step of posting m is a step for all
-- postings x: what it takes or adds is a multiple of `bit (eqb m x)`. Rests on Machine, Runs, Steps and Sums. Assumes nothing.
use Prim.Native.Nat.{ℕ, zero, suc, ◌+◌, ◌*◌, ◌-◌, ◌<◌, ◌≤◌}
use mathlib.Core.Path.{◌≡◌, refl, sym, subst}
use mathlib.Core.Logic.{inl, inr, ◌≢◌}
use mathlib.Core.Bool.{Bool, true, false, cond, not, ◌&&◌}
use mathlib.Core.List.{List, [], ◌∷◌, ◌++◌}
use native.Mathlib.Omega.{arith}
use native.Mathlib.Nat.{mul-add, mul-pos, mul-le-mul_left, le_refl, le-add_right}
use lib.Dec.{eqb, leb}
use lib.ListN.{length, get_or}
use Rattle.broadcast.specs.Lists.{In, NoRepeat, mem}
use Rattle.broadcast.specs.Counts.{bit, count, majority}
use Rattle.broadcast.specs.Machine.{World, State, Cut, goes, to_all, down, send_first, take_first, see, send_second, hear_second, take_second, step, send_third, hear_third, take_third, finish, send_deliver, enter_pool, take_deliver, get, deliver_at, append, advance}
use Rattle.broadcast.specs.Runs.{heard_at, count_second, conclude, relay, arrive, next_at}
use Rattle.broadcast.proofs.Steps.{conclude_pool_other, after_conclude}
use Rattle.broadcast.proofs.Tests.{test, nope, either, not_self, not-false, eqb_yes, eqb_no, eqb-true, eqb-false, leb-true, leb_yes}
use Rattle.broadcast.proofs.Counts.{count_le, count_mono, count_lt}
use Rattle.broadcast.proofs.Lists.{not_mem, in_mem, in_right, in_get_d}
use Rattle.broadcast.proofs.Sums.{pairs, scale_fall, count_take, pairs_take, pairs_send, count_send, count_join, count_join_le, count_miss, count_but}

-- the place of x in a list that has it
abbrev pub index : ℕ → List ℕ → ℕ
index x [] = 0
index x (y ∷ l) = cond (eqb x y) 0 (suc (index x l))

index_get_d : (l : List ℕ) (k : ℕ) → NoRepeat l → k < length l → index (get_or l k 0) l ≡ k
index_get_d [] k d h = absurd (omega arith)
index_get_d (y ∷ l) zero d h = rw (eqb_yes y y refl)
index_get_d (y ∷ l) (suc k) d h =
    let here = in_get_d l k (omega arith) in
    rw (eqb_no (get_or l k 0) y (λ e. d.0 (rw e at here)), index_get_d l k d.1 (omega arith))

index_left : (x : ℕ) (l r : List ℕ) → mem x l ≡ true → index x (l ++ r) ≡ index x l
index_left x [] r h = absurd (nope h refl)
index_left x (y ∷ l) r h = elim (test (eqb x y)) [ inl t ↦ rw t | inr f ↦ rw (f, index_left x l r (rw f at h)) ]

mem_snoc : (x m : ℕ) (l : List ℕ) → m ≢ x → mem x (l ++ (m ∷ [])) ≡ mem x l
mem_snoc x m [] d = rw (eqb_no x m (λ e. d (sym e)))
mem_snoc x m (y ∷ l) d = rw (mem_snoc x m l d)

-- p goes one place on: one fewer is at place i or before it, if p was there
module _ (place : ℕ → ℕ) (p i n : ℕ) where
  abbrev after : ℕ → ℕ
  after q = cond (eqb p q) (suc (place q)) (place q)

  was_before : (b : Bool) (a : ℕ) → leb (cond b (suc a) a) i ≡ true → leb a i ≡ true
  was_before true a h = let k = leb-true (suc a) i h in leb_yes a i (omega arith)
  was_before false a h = h

  count_past : (e : Bool) → p < n → (e ≡ true → i ≡ place p) → count (λ q. leb (after q) i) n + bit e ≤ count (λ q. leb (place q) i) n
  count_past true lp h =
      let e = h refl in
      let gone : leb (after p) i ≡ false = rw (eqb_yes p p refl) (not-false (leb (suc (place p)) i) (λ t. let k = leb-true (suc (place p)) i t in omega arith)) in
      let k = count_lt (λ q. leb (after q) i) (λ q. leb (place q) i) p n lp (λ q _. was_before (eqb p q) (place q)) gone (leb_yes (place p) i (omega arith)) in
      omega arith
  count_past false lp h = let k = count_mono (λ q. leb (after q) i) (λ q. leb (place q) i) n (λ q _. was_before (eqb p q) (place q)) in omega arith

-- What the end of a posting may still cost: an entry in the pool is ordered and then read by all; an entry of the log is read by
-- those who have not read it; else DELIVERs are on their way, sites will relay them, and the owner will send the first of them.
abbrev pub end_of : ℕ → Bool → Bool → Bool → ℕ → ℕ → ℕ
end_of n pool logged finished unread owed = cond pool (n + 1) (cond logged unread (owed + cond finished 0 n))

-- what it may do, over plain numbers: less is owed
end_falls : (n : ℕ) (pool logged finished : Bool) (u v v' : ℕ) (e : Bool) → (e ≡ true → (pool ≡ false) × (logged ≡ false)) → v' + bit e ≤ v
    → end_of n pool logged finished u v' + bit e ≤ end_of n pool logged finished u v
end_falls n pool logged fin u v v' true h k = rw ((h refl).0, (h refl).1) (omega arith)
end_falls n true logged fin u v v' false h k = omega arith
end_falls n false true fin u v v' false h k = omega arith
end_falls n false false fin u v v' false h k = omega arith

-- the owner has finished, with DELIVERs to n sites at most, or with an entry
end_finish : (n : ℕ) (e pool pool' logged finished : Bool) (u v v' : ℕ) → (e ≡ true → (pool ≡ false) × (logged ≡ false) × (finished ≡ false) × (1 ≤ v))
    → (e ≡ false → pool' ≡ pool) → v' ≤ v + n * bit e → end_of n pool' logged (cond e true finished) u v' ≤ end_of n pool logged finished u v
end_finish n true pool pool' logged fin u v v' h k le = let more = (h refl).3 in rw ((h refl).0, (h refl).1, (h refl).2) (ends pool')
  where
    ends : (a : Bool) → end_of n a false true u v' ≤ v + n
    ends true = let more = (h refl).3 in omega arith
    ends false = omega arith
end_finish n false pool pool' logged fin u v v' h k le =
    rw (k refl) (omega (arith, end_falls n pool logged fin u v v' false (λ t. absurd (nope t refl)) (omega arith)))

-- the entry goes to the log; it is read
end_order : (n : ℕ) (e pool logged logged' finished : Bool) (u u' v : ℕ) → (e ≡ true → (pool ≡ true) × (logged' ≡ true)) → (e ≡ false → (logged' ≡ logged) × (logged ≡ true → u' ≤ u)) → u' ≤ n
    → end_of n (cond e false pool) logged' finished u' v + bit e ≤ end_of n pool logged finished u v
end_order n true pool logged logged' fin u u' v h k le = rw ((h refl).0, (h refl).1) (omega arith)
end_order n false pool logged logged' fin u u' v h k le = rw (k refl).0 (same pool logged (k refl).1)
  where
    same : (a b : Bool) → (b ≡ true → u' ≤ u) → end_of n a b fin u' v + 0 ≤ end_of n a b fin u v
    same true b j = omega arith
    same false true j = omega (arith, j refl)
    same false false j = omega arith

end_read : (n : ℕ) (e pool logged finished : Bool) (u u' v : ℕ) → (e ≡ true → (pool ≡ false) × (logged ≡ true)) → u' + bit e ≤ u
    → end_of n pool logged finished u' v + bit e ≤ end_of n pool logged finished u v
end_read n true pool logged fin u u' v h k = rw ((h refl).0, (h refl).1) (omega arith)
end_read n false true logged fin u u' v h k = omega arith
end_read n false false true fin u u' v h k = omega arith
end_read n false false false fin u u' v h k = omega arith

module _ (w : World) where
  -- the sites that have not read the entry of x, and those other than the owner that have not got DELIVER x
  abbrev pub unread : State → ℕ → ℕ
  unread s x = count (λ p. leb (s.sites.place p) (index x s.oracle.log)) w.n

  abbrev pub unaware : State → ℕ → ℕ
  unaware s x = count (λ p. not (eqb p (w.owner x)) && not (s.delivers.got p x)) w.n

  abbrev pub owed : State → ℕ → ℕ
  owed s x = pairs (s.delivers.sent x) w.n + (w.n - 1) * unaware s x

  abbrev pub ending : State → ℕ → ℕ
  ending s x = end_of w.n (s.oracle.pool x) (mem x s.oracle.log) (s.finished x) (unread s x) (owed s x)

  unfoldable pub potential : State → ℕ → ℕ
  potential s x =
      (w.n + 1) * pairs (s.firsts x) w.n
      + pairs (s.seconds.sent x) w.n
      + count (λ p. not (s.sets.stepped p x)) w.n
      + count (s.thirds.sent x) w.n
      + ending s x

  to_all_le : (c : Cut) → count (to_all w c) w.n ≤ w.n
  to_all_le c = count_le (to_all w c) w.n

  -- where nobody has got DELIVER x, all but the owner are unaware
  pub all_unaware : (s : State) (x : ℕ) → ((p : ℕ) → s.delivers.got p x ≡ false) → unaware s x + 1 ≡ w.n
  all_unaware s x none =
      count_but (λ p. not (eqb p (w.owner x)) && not (s.delivers.got p x)) (w.owner x) w.n (w.owned x)
      (rw (eqb_yes (w.owner x) (w.owner x) refl)) (λ j _ d. rw (eqb_no j (w.owner x) (λ e. d (sym e)), none j))

  module _ (s : State) (x : ℕ) where
    -- the first two rounds
    pub send_first_rises : (m : ℕ) (c : Cut) → potential (send_first w s m c) x ≤ potential s x + (w.n + 1) * (w.n * bit (eqb m x))
    unfolding potential send_first
    send_first_rises m c =
        let k = pairs_send (eqb m x) (s.firsts x) (w.owner m) (to_all w c) w.n w.n (to_all_le c) in
        omega (arith, mul-le-mul_left (w.n + 1) k, mul-add (w.n + 1) (pairs (s.firsts x) w.n) (w.n * bit (eqb m x)))

    pub take_first_falls : (m r p : ℕ) → s.firsts m r p ≡ true → r < w.n → p < w.n
        → potential (take_first w s m r p) x + (w.n + 1) * bit (eqb m x) ≤ potential s x
    unfolding potential take_first
    take_first_falls m r p h lr lp =
        let k = pairs_take (eqb m x) (s.firsts x) r p w.n lr lp (λ t. rw (← eqb-true m x t) h) in
        let d = scale_fall (w.n + 1) (pairs ((take_first w s m r p).firsts x) w.n) (pairs (s.firsts x) w.n) (bit (eqb m x)) k in
        omega arith

    pub see_same : (m p : ℕ) → potential (see w s m p) x ≡ potential s x
    unfolding potential see
    see_same m p = refl

    pub send_second_rises : (m p : ℕ) (c : Cut) → potential (send_second w s m p c) x ≤ potential s x + w.n * bit (eqb m x)
    unfolding potential send_second
    send_second_rises m p c =
        let k = pairs_send (eqb m x) (s.seconds.sent x) p (to_all w c) w.n w.n (to_all_le c) in
        omega arith

    pub hear_second_same : (m r p : ℕ) → potential (hear_second w s m r p) x ≡ potential s x
    unfolding potential hear_second
    hear_second_same m r p = refl

    pub take_second_falls : (m r p : ℕ) → s.seconds.sent m r p ≡ true → r < w.n → p < w.n
        → potential (take_second w s m r p) x + bit (eqb m x) ≤ potential s x
    unfolding potential take_second
    take_second_falls m r p h lr lp =
        let k = pairs_take (eqb m x) (s.seconds.sent x) r p w.n lr lp (λ t. rw (← eqb-true m x t) h) in
        omega arith

    -- a step, and the third round
    pub step_falls : (m p : ℕ) → s.sets.stepped p m ≡ false → p < w.n → potential (step w s m p) x + bit (eqb m x) ≤ potential s x
    unfolding potential step
    step_falls m p h lp =
        let k = count_join (λ _. true) (λ q. s.sets.stepped q x) (eqb m x) p w.n lp (λ _. refl) (λ t. rw (← eqb-true m x t) h) in
        omega arith

    pub send_third_rises : (m p : ℕ) (c : Cut) → potential (send_third w s m p c) x ≤ potential s x + bit (eqb m x)
    unfolding potential send_third
    send_third_rises m p c =
        let k = count_send (eqb m x) (goes c (w.owner m)) (s.thirds.sent x) p w.n in
        omega arith

    pub hear_third_same : (m r : ℕ) → potential (hear_third w s m r) x ≡ potential s x
    unfolding potential hear_third
    hear_third_same m r = refl

    pub take_third_falls : (m r : ℕ) → s.thirds.sent m r ≡ true → r < w.n → potential (take_third w s m r) x + bit (eqb m x) ≤ potential s x
    unfolding potential take_third
    take_third_falls m r h lr =
        let k = count_take (eqb m x) (s.thirds.sent x) r w.n lr (λ t. rw (← eqb-true m x t) h) in
        omega arith

    -- the ends of a posting
    pub take_deliver_falls : (m r p : ℕ) → s.delivers.sent m r p ≡ true → s.oracle.pool m ≡ false → ¬ In m s.oracle.log → r < w.n → p < w.n
        → potential (take_deliver w s m r p) x + bit (eqb m x) ≤ potential s x
    unfolding potential take_deliver
    take_deliver_falls m r p h no_pool no_log lr lp =
        let k = pairs_take (eqb m x) (s.delivers.sent x) r p w.n lr lp (λ t. rw (← eqb-true m x t) h) in
        let d = end_falls w.n (s.oracle.pool x) (mem x s.oracle.log) (s.finished x) (unread s x) (owed s x) (owed (take_deliver w s m r p) x) (eqb m x) (λ e.
        rw (← eqb-true m x e) (no_pool, not_mem m s.oracle.log no_log)) (omega arith) in
        omega arith

    -- the first receipt: the owner sends nothing more, another site is aware of m and sends to all but itself
    get_own : (m p : ℕ) → potential (get w s m p) x ≤ potential s x
    unfolding potential get
    get_own m p =
        let k = count_join_le (λ q. not (eqb q (w.owner x))) (λ q. s.delivers.got q x) (eqb m x) p w.n in
        let d = end_falls w.n (s.oracle.pool x) (mem x s.oracle.log) (s.finished x) (unread s x) (owed s x) (owed (get w s m p) x) false (λ t. absurd (nope t refl))
        (omega (arith, mul-le-mul_left (w.n - 1) k)) in
        omega arith

    get_other : (m p : ℕ) (to : ℕ → Bool) → p < w.n → eqb p (w.owner m) ≡ false → s.delivers.got p m ≡ false → to p ≡ false
        → potential (get w (send_deliver w s m p to) m p) x ≤ potential s x
    unfolding potential get send_deliver
    get_other m p to lp other fresh self =
        let t = get w (send_deliver w s m p to) m p in
        let few = count_miss to p w.n lp self in
        let less : count to w.n ≤ w.n - 1 = omega arith in
        let a = pairs_send (eqb m x) (s.delivers.sent x) p to (w.n - 1) w.n less in
        let b = count_join (λ q. not (eqb q (w.owner x))) (λ q. s.delivers.got q x) (eqb m x) p w.n lp
        (λ e. rw (← eqb-true m x e, other)) (λ e. rw (← eqb-true m x e) fresh) in
        let k = scale_fall (w.n - 1) (unaware t x) (unaware s x) (bit (eqb m x)) b in
        let d = end_falls w.n (s.oracle.pool x) (mem x s.oracle.log) (s.finished x) (unread s x) (owed s x) (owed t x) false (λ t. absurd (nope t refl)) (omega arith) in
        omega arith

    send_deliver_pairs : (m p : ℕ) (to : ℕ → Bool) → count to w.n ≤ w.n
        → pairs ((send_deliver w s m p to).delivers.sent x) w.n ≤ pairs (s.delivers.sent x) w.n + w.n * bit (eqb m x)
    unfolding send_deliver
    send_deliver_pairs m p to h = pairs_send (eqb m x) (s.delivers.sent x) p to w.n w.n h

    -- what a site keeps to itself
    pub deliver_at_same : (p : ℕ) (l : List ℕ) (c : Cut) → potential (deliver_at w s p l c) x ≡ potential s x
    unfolding potential deliver_at
    deliver_at_same p l c = refl

    pub down_same : (p : ℕ) → potential (down w s p) x ≡ potential s x
    unfolding potential down
    down_same p = refl

    -- the atomic broadcast
    pub append_falls : (m : ℕ) → s.oracle.pool m ≡ true → potential (append w s m) x + bit (eqb m x) ≤ potential s x
    unfolding potential append
    append_falls m here =
        let log = s.oracle.log in
        let t = append w s m in
        let d = end_order w.n (eqb m x) (s.oracle.pool x) (mem x log) (mem x (log ++ (m ∷ []))) (s.finished x) (unread s x) (unread t x) (owed s x)
        (λ e. let k = eqb-true m x e in (rw (← k) here, in_mem x (log ++ (m ∷ [])) (in_right x log (m ∷ []) (inl (sym k)))))
        (λ e. (mem_snoc x m log (eqb-false m x e), λ h. rw (index_left x log (m ∷ []) h) (omega arith)))
        (count_le (λ p. leb (s.sites.place p) (index x (log ++ (m ∷ [])))) w.n) in
        omega arith

    pub advance_falls : (p : ℕ) → p < w.n → s.sites.place p < length s.oracle.log → NoRepeat s.oracle.log
        → s.oracle.pool (next_at w s p) ≡ false → potential (advance w s p) x + bit (eqb (next_at w s p) x) ≤ potential s x
    unfolding potential advance
    advance_falls p lp more distinct no_pool =
        let log = s.oracle.log in
        let d = end_read w.n (eqb (next_at w s p) x) (s.oracle.pool x) (mem x log) (s.finished x) (unread s x) (unread (advance w s p) x) (owed s x)
        (λ e. rw (← eqb-true (next_at w s p) x e) (no_pool, in_mem (next_at w s p) log (in_get_d log (s.sites.place p) more)))
        (count_past s.sites.place p (index x log) w.n (eqb (next_at w s p) x) lp (λ e. rw (← eqb-true (next_at w s p) x e) (index_get_d log (s.sites.place p) distinct more))) in
        omega arith

  -- the named steps
  conclude_pairs : (s : State) (x m : ℕ) (c : Cut) → pairs ((conclude w s m c).delivers.sent x) w.n ≤ pairs (s.delivers.sent x) w.n + w.n * bit (eqb m x)
  unfolding conclude enter_pool
  conclude_pairs s x m c =
      either (λ (t : State). pairs (t.delivers.sent x) w.n ≤ pairs (s.delivers.sent x) w.n + w.n * bit (eqb m x)) (majority (λ r. s.thirds.has m r) w.n) _ _
      (λ _. send_deliver_pairs _ x m (w.owner m) _ (to_all_le c)) (λ _. le-add_right (pairs (s.delivers.sent x) w.n) (w.n * bit (eqb m x)))

  module _ (s : State) (x : ℕ) where
    -- the step that follows the (n - f)th SECOND pays for the THIRD
    stepping_same : (m q p : ℕ) (c : Cut) → s.sets.stepped p m ≡ false → p < w.n → potential (send_third w (step w (see w s m q) m p) m p c) x ≤ potential s x
    stepping_same m q p c open-m lp =
        let one = see w s m q in
        let still : one.sets.stepped p m ≡ false = unfold see in open-m in
        omega (arith, send_third_rises (step w one m p) x m p c, step_falls one x m p still lp, see_same s x m q)

    pub count_second_same : (m p : ℕ) (c : Cut) → s.sets.stepped p m ≡ false → p < w.n → potential (count_second w s m p c) x ≤ potential s x
    unfolding count_second
    count_second_same m p c open-m lp =
        either (λ t. potential t x ≤ potential s x) (leb (w.n - w.f) (heard_at w s m p)) _ _ (λ _. stepping_same m _ p c open-m lp) (λ _. le_refl (potential s x))

    -- finishing raises nothing: the owner's n pay for the DELIVERs, or with what the other sites would have sent for an entry
    pub conclude_same : (m : ℕ) (c : Cut) → 2 ≤ w.n → s.finished m ≡ false → s.oracle.pool m ≡ false → ¬ In m s.oracle.log → ((p : ℕ) → s.delivers.got p m ≡ false)
        → potential (conclude w (finish w s m) m c) x ≤ potential s x
    unfolding potential finish
    conclude_same m c two open-m no_pool no_log none =
        after_conclude w (finish w s m) (λ t. (eqb m x ≡ false → t.oracle.pool x ≡ s.oracle.pool x)
        → pairs (t.delivers.sent x) w.n ≤ pairs (s.delivers.sent x) w.n + w.n * bit (eqb m x) → potential t x ≤ potential s x) m c
        (λ sent pool entry other few.
        let d = end_finish w.n (eqb m x) (s.oracle.pool x) (pool x) (mem x s.oracle.log) (s.finished x) (unread s x) (owed s x)
        (pairs (sent x) w.n + (w.n - 1) * unaware s x) (λ e. rw (← eqb-true m x e) (no_pool, not_mem m s.oracle.log no_log, open-m, more)) other (omega arith) in
        omega arith)
        (conclude_pool_other w (finish w s m) m c x) (conclude_pairs (finish w s m) x m c)
      where
        more : 1 ≤ owed s m
        more =
            let k = all_unaware s m none in
            let a : 0 < w.n - 1 = omega arith in
            let b : 0 < unaware s m = omega arith in
            omega (arith, mul-pos a b)

    relay_same : (m p : ℕ) (c : Cut) → p < w.n → s.delivers.got p m ≡ false → potential (get w (relay w s m p c) m p) x ≤ potential s x
    unfolding relay
    relay_same m p c lp fresh =
        either (λ t. potential (get w t m p) x ≤ potential s x) (eqb p (w.owner m)) _ _
        (λ _. get_own s x m p) (λ other. get_other s x m p _ lp other fresh (not_self p _))

    pub arrive_same : (m p : ℕ) (c : Cut) → p < w.n → s.delivers.got p m ≡ false → potential (arrive w s m p c) x ≤ potential s x
    unfolding arrive
    arrive_same m p c lp fresh = subst (λ (k : ℕ). k ≤ potential s x) (sym (deliver_at_same _ x p _ _)) (relay_same m p c lp fresh)
