-- One order of all postings delivered anywhere: every record respects it, and has with every posting each conflicting one ahead of it.
-- Rests on F1, F2 and R1 to R4 alone, as parameters; the theorem `one-order` is for the states that a run reaches. Assumes nothing.
use Prim.Native.Nat.{ℕ, zero, suc, ◌<◌}
use mathlib.Core.Path.{◌≡◌, refl, sym, ◌∙◌, subst}
use mathlib.Core.Logic.{inl, inr}
use mathlib.Core.Bool.{Bool, true, false, not}
use mathlib.Core.List.{List, [], ◌∷◌, ◌++◌, append_assoc}
use native.Mathlib.Omega.{arith}
use Rattle.broadcast.specs.Lists.{In, NoRepeat, Before, mem, Exchanges, keep, share, OneOrder}
use Rattle.broadcast.specs.Deliveries.{Ahead, once, members}
use Rattle.broadcast.specs.Counts.{nowhere}
use Rattle.broadcast.specs.Machine.{World, State, entry_of, expand}
use Rattle.broadcast.specs.Runs.{Event, Reached}
use Rattle.broadcast.proofs.Tests.{test, nope, not-true, same_or}
use Rattle.broadcast.proofs.Counts.{nowhere_none}
use Rattle.broadcast.proofs.Lists.{mem_in, in_mem, in_one, in_left, in_right, in_cases, before_left, before_right, keep_in, in_keep, keep_norepeat, keep_before, once_in, in_once, once_norepeat, once_before, ahead_append, ahead_part, ahead_asym, ahead_past, ahead_here, keep_ahead, members_in, in_members}
use Rattle.broadcast.proofs.Exchange.{exchanges, exchanged_under}
use Rattle.broadcast.proofs.Ending.{won, won_held, won_apart, entry_apart, entry_carries}
use Rattle.broadcast.proofs.Safety.{Safe, safe, log_named, entry_named, got_named, stepped_named}
use Rattle.broadcast.proofs.Records.{Read, Records, records, expand_in}

-- all numbers below n
abbrev pub all : ℕ → List ℕ
all n = members (λ _. true) n

in_all : (x n : ℕ) → x < n → In x (all n)
in_all x n h = in_members (λ _. true) x n h refl

-- the order: what a test holds of, first as the log's entries have it, then in rising number
unfoldable pub order_of : (ℕ → Bool) → List ℕ → ℕ → List ℕ
order_of anywhere log bound = once (keep anywhere (log ++ all bound))

-- What the order rests on: `fast` tells what goes by DELIVER, `anywhere` what is in some record, `log` what the entries deliver.
pub record Interface (conflict : ℕ → ℕ → Bool) (fast anywhere : ℕ → Bool) (log : List ℕ) (bound : ℕ) : Type 0 where
  pub symmetric : (x y : ℕ) → conflict x y ≡ conflict y x
  pub below : (x : ℕ) → anywhere x ≡ true → x < bound
  -- F1: what goes by DELIVER does not conflict with its like
  pub apart : (x y : ℕ) → conflict x y ≡ true → fast x ≡ true → fast y ≡ true → ⊥
  -- F1 and F2: it stands ahead of a conflicting posting of the log
  pub ahead : (x y : ℕ) → conflict x y ≡ true → fast x ≡ true → In y log → Ahead x y log
  -- R2: what is in a record goes by DELIVER or stands in the log
  pub comes : (x : ℕ) → anywhere x ≡ true → fast x ≡ false → In x log

module _ {conflict : ℕ → ℕ → Bool} {fast anywhere : ℕ → Bool} {log : List ℕ} {bound : ℕ} (k : Interface conflict fast anywhere log bound) where
  order_in : (x : ℕ) → In x (order_of anywhere log bound) → anywhere x ≡ true
  unfolding order_of
  order_in x m = (keep_in anywhere x (log ++ all bound) (once_in x (keep anywhere (log ++ all bound)) m)).1

  in_order : (x : ℕ) → anywhere x ≡ true → In x (order_of anywhere log bound)
  unfolding order_of
  in_order x h = in_once x (keep anywhere (log ++ all bound)) (in_keep anywhere x (log ++ all bound) (in_right x log (all bound) (in_all x bound (k.below x h))) h)

  order_once : NoRepeat (order_of anywhere log bound)
  unfolding order_of
  order_once = once_norepeat (keep anywhere (log ++ all bound))

  order_ahead : (x y : ℕ) → anywhere y ≡ true → Before x y (order_of anywhere log bound) → Ahead x y (log ++ all bound)
  unfolding order_of
  order_ahead x y h b = keep_ahead anywhere x y (log ++ all bound) h (once_before x y (keep anywhere (log ++ all bound)) b)

  module _ (done rest r : List ℕ) (split : log ≡ done ++ rest) (reads : Read fast done r) (found : (x : ℕ) → In x r → anywhere x ≡ true) where
    -- of two conflicting postings the one ahead in the order stands ahead in the record
    respects : (x y : ℕ) → conflict x y ≡ true → Before x y (order_of anywhere log bound) → In y r → Before x y r
    respects x y c b my =
        let ahead = order_ahead x y (found y my) b in
        elim (test (fast y)) [
          | inl fy ↦ elim (test (fast x)) [
            | inl fx ↦ absurd (k.apart x y c fx fy)
            | inr nx ↦
                let mx = k.comes x (order_in x (before_left x y (order_of anywhere log bound) b)) nx in
                let back = k.ahead y x (k.symmetric y x ∙ c) fy mx in
                absurd (ahead_asym x y (log ++ all bound) ahead (ahead_append y x log (all bound) back))
          ]
          | inr ny ↦ let (py, before) = reads.order y my ny in
              before x (ahead_part x y done (rest ++ all bound) py (rw append_assoc at (rw split at ahead)))
        ]

    becomes : Exchanges conflict r (share r (order_of anywhere log bound))
    unfolding share
    becomes =
        let g = order_of anywhere log bound in
        exchanges conflict k.symmetric (keep (λ z. mem z r) g) r reads.once (keep_norepeat (λ z. mem z r) g order_once)
        (λ x m. in_keep (λ z. mem z r) x g (in_order x (found x m)) (in_mem x r m))
        (λ x m. mem_in x r (keep_in (λ z. mem z r) x g m).1)
        (λ x y c h. respects x y c (keep_before (λ z. mem z r) x y g h)
        (mem_in y r (keep_in (λ z. mem z r) y g (before_right x y (keep (λ z. mem z r) g) h)).1))

module _ (w : World) where
  -- y is in no entry's set, and its own entry carries x: x stands ahead of the first y
  carried_ahead : (entry : ℕ → ℕ → Bool) (x y : ℕ) (log : List ℕ) → x < w.bound → ((m : ℕ) → In m log → entry m y ≡ true → ⊥) → (In y log → entry y x ≡ true)
      → In y (expand w entry log) → Ahead x y (expand w entry log)
  unfolding entry_of
  carried_ahead entry x y [] lt never own here = elim here [ ]
  carried_ahead entry x y (m ∷ l) lt never own here =
      let set = members (entry m) w.bound in
      let no_set_lem : ¬ In y set = λ k. never m (inl refl) (members_in (entry m) y w.bound k).1 in
      elim (same_or m y) [
        | inl e ↦ rw append_assoc (ahead_here x y set ((m ∷ []) ++ expand w entry l) no_set_lem
            (in_members (entry m) x w.bound lt (rw e (own (inl (sym e))))))
        | inr d ↦
            let none : ¬ In y (set ++ (m ∷ [])) = λ k. elim (in_cases y set (m ∷ []) k) [ inl h ↦ no_set_lem h | inr h ↦ d (sym (in_one h)) ] in
            ahead_past x y (set ++ (m ∷ [])) (expand w entry l) none
            (carried_ahead entry x y l lt (λ q k. never q (inr k)) (λ k. own (inr k))
            (elim (in_cases y (set ++ (m ∷ [])) (expand w entry l) here) [ inl k ↦ absurd (none k) | inr k ↦ k ]))
      ]

  -- some site's record has x
  unfoldable pub anywhere : State → ℕ → Bool
  anywhere s x = not (nowhere (λ p. mem x (s.sites.delivered p)) w.n)

  pub anywhere_at : (s : State) (p x : ℕ) → p < w.n → In x (s.sites.delivered p) → anywhere s x ≡ true
  unfolding anywhere
  anywhere_at s p x lt m = elim (test (nowhere (λ q. mem x (s.sites.delivered q)) w.n)) [
    | inl t ↦ absurd (nope (in_mem x (s.sites.delivered p) m) (nowhere_none (λ q. mem x (s.sites.delivered q)) w.n t p lt))
    | inr f ↦ rw f
  ]

  pub at_anywhere : (s : State) (x : ℕ) → anywhere s x ≡ true → (p : ℕ) × (p < w.n) × In x (s.sites.delivered p)
  unfolding anywhere
  at_anywhere s x h = go w.n (λ p lt. lt) (not-true (nowhere (λ q. mem x (s.sites.delivered q)) w.n) h)
    where
      go : (k : ℕ) → ((p : ℕ) → p < k → p < w.n) → nowhere (λ q. mem x (s.sites.delivered q)) k ≡ false → (p : ℕ) × (p < w.n) × In x (s.sites.delivered p)
      go zero up f = absurd (nope refl f)
      go (suc k) up f = elim (test (mem x (s.sites.delivered k))) [
        | inl t ↦ (k, up k (omega arith), mem_in x (s.sites.delivered k) t)
        | inr t ↦ go k (λ p lt. up p (omega arith)) (rw t at f)
      ]

  unfoldable pub order_at : State → List ℕ
  order_at s = order_of (anywhere s) (expand w s.oracle.entry s.oracle.log) w.bound

  -- the records of a state have this order
  abbrev pub Ordered : State → List ℕ → Type 0
  Ordered s order = OneOrder w.conflict w.n s.sites.delivered order

  module _ (s : State) (j : Safe w s) (i : Records w (won w s.thirds) s.delivers.got s.oracle s.sites) where
    -- N0 for records
    pub delivered_named : (p x : ℕ) → In x (s.sites.delivered p) → s.offered x ≡ true
    delivered_named p x m = elim ((i.each p).came x m) [
      | inl g ↦ got_named w s j x p g
      | inr d ↦ elim (expand_in w s.oracle.entry s.oracle.log x (rw (i.each p).split (in_left x (i.each p).done (i.each p).rest d))) [
        | inl k ↦ log_named w s j x k
        | inr k ↦ entry_named w s j k.0 x k.1 k.2
      ]
    ]

    fast_below : (x : ℕ) → won w s.thirds x ≡ true → x < w.bound
    fast_below x h =
        let (r, k) = won_held w s.sets s.thirds j.tallies x h in
        j.voting.below x (stepped_named w s j r x (j.voting.held_stepped r x k))

    facts : Interface w.conflict (won w s.thirds) (anywhere s) (expand w s.oracle.entry s.oracle.log) w.bound
    facts = record {
      symmetric = w.symmetric;
      below = λ x h. let (p, lt, m) = at_anywhere s x h in j.voting.below x (delivered_named p x m);
      apart = won_apart w s j.voting j.tallies j.ending;
      ahead = λ x y c fx k.
          carried_ahead s.oracle.entry x y s.oracle.log (fast_below x fx)
          (λ m h e. entry_apart w s j.voting j.tallies j.ending m x y c fx h e)
          (λ h. entry_carries w s j.voting j.tallies j.ending x y c fx h)
          k;
      comes = λ x h f.
          let (p, lt, m) = at_anywhere s x h in
          let (d, rest) = (i.each p).reads.order x m f in
          rw (i.each p).split (in_left x (i.each p).done (i.each p).rest d);
    }

    pub ordered : Ordered s (order_at s)
    unfolding order_at
    ordered = record {
      once = order_once facts;
      delivered = λ x m. at_anywhere s x (order_in facts x m);
      complete = λ p x lt m. in_order facts x (anywhere_at s p x lt m);
      becomes_share = λ p lt.
          let at = i.each p in
          becomes facts at.done at.rest (s.sites.delivered p) at.split at.reads (λ x m. anywhere_at s p x lt m);
      has_ahead = λ p x y lt m c b.
          let at = i.each p in
          before_left x y (s.sites.delivered p)
          (respects facts at.done at.rest (s.sites.delivered p) at.split at.reads (λ x m. anywhere_at s p x lt m) x y c b m);
    }

  -- One order, at every state that a run reaches.
  pub one_order : {es : List Event} {s : State} → Reached w es s → Ordered s (order_at s)
  one_order {es} {s} r = ordered s (safe w r) (records w r)

-- An order is that of any records that are the same, under any notion of conflict that says the same of what stands in them.
pub order_kept : {c d : ℕ → ℕ → Bool} {n : ℕ} {records others : ℕ → List ℕ} {order : List ℕ} → ((p : ℕ) → p < n → records p ≡ others p)
    → ((p q x y : ℕ) → p < n → q < n → In x (others p) → In y (others q) → c x y ≡ d x y) → OneOrder c n records order → OneOrder d n others order
order_kept {c} {d} {n} {records} {others} {order} same alike one = record {
  once = one.once;
  delivered = λ x m. let (p, lt, k) = one.delivered x m in (p, lt, to p x lt k);
  complete = λ p x lt m. one.complete p x lt (of p x lt m);
  becomes_share = λ p lt. exchanged_under (λ x y ix iy free. sym (alike p p x y lt lt ix iy) ∙ free)
      (subst (λ (l : List ℕ). Exchanges c l (share l order)) (same p lt) (one.becomes_share p lt));
  has_ahead = λ p x y lt m e b.
      let (q, lq, k) = one.delivered x (before_left x y order b) in
      to p x lt (one.has_ahead p x y lt (of p y lt m) (alike q p x y lq lt (to q x lq k) m ∙ e) b);
}
  where
    to : (p x : ℕ) → p < n → In x (records p) → In x (others p)
    to p x lt m = subst (λ (l : List ℕ). In x l) (same p lt) m

    of : (p x : ℕ) → p < n → In x (others p) → In x (records p)
    of p x lt m = subst (λ (l : List ℕ). In x l) (sym (same p lt)) m
