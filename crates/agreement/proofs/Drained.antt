-- A drain is the run of its events: it counts them, ends quiet or spent, and 27,136 is always enough. Lists with drains are lists of calls.
-- Rests on Agreement, Drains, Simulated and Proved, on drain. Assumes nothing.
use Prim.Native.Nat.{ℕ, zero, suc, ◌+◌, ◌*◌, ◌≤◌}
use mathlib.Core.Path.{◌≡◌, refl, sym, ap, ◌∙◌, subst}
use mathlib.Core.Logic.{◌⊎◌, inl, inr}
use mathlib.Core.Bool.{Bool, true, false, cond}
use mathlib.Core.List.{List, [], ◌∷◌, ◌++◌}
use native.Mathlib.Omega.{arith}
use native.Mathlib.Nat.{mul-le-mul}
use lib.ListN.{length}
use Rattle.sets.proofs.Truth.{test, never}
use Rattle.sets.specs.Sets.{capacity}
use Rattle.site.specs.declared.Setup.{Setup}
use Rattle.site.specs.Sites.{sites}
use Rattle.machine.specs.declared.Board.{Board}
use Rattle.steps.specs.declared.Call.{Call}
use Rattle.steps.specs.declared.Call.TheVariants.{Offer, Receive, Order, Read, Crash}
use Rattle.machine.specs.Boards.{fresh_board}
use Rattle.machine.specs.Soundness.{is_sound, setup_ok}
use Rattle.machine.specs.Calls.{starting}
use Rattle.machine.specs.Runs.{taking, accepted, running, is_action, is_quiet}
use Rattle.machine.specs.History.{accepted_calls, offers, actions}
use Rattle.drain.specs.declared.Ending.TheVariants.{Quiet, Spent}
use Rattle.drain.specs.declared.Drained.{Drained}
use Rattle.drain.specs.Drain.{Next, none, event, next_event, draining, drained}
use Rattle.machine.proofs.SoundTest.{facts_sound}
use Rattle.machine.proofs.Facts.{setup_sites}
use Rattle.invariants.proofs.Reached.{Good, good_sites, call_good, run_good}
use Rattle.invariants.proofs.Start.{fresh_good, start_taken}
use Rattle.agreement.specs.Agreement.{ceiling_of, BooksAgree}
use Rattle.agreement.specs.Accounts.{AccountsAgree}
use Rattle.agreement.specs.Drains.{Item, call, drain, events_of, stands_for, board_after, running_all, expanded, BooksAgreeAfterAll, DrainSays}
use Rattle.drain.proofs.Loop.{draining_none, draining_event}
use Rattle.drain.proofs.NextEvent.{next_accepted, next_acts, next_none, quiet_next}
use Rattle.agreement.proofs.Simulated.{run_more}
use Rattle.agreement.proofs.Proved.{agree_fresh, books_agree, accounts_agree, run_append, offers_few}

-- ---- one event more

events_none : (left : ℕ) (b : Board) → next_event b ≡ none → events_of (suc left) b ≡ []
unfolding events_of
events_none left b e = ap (λ (r : Next). elim r [ none ↦ [] | event c ↦ c ∷ events_of left (taking b c).board ]) e

events_event : (left : ℕ) (b : Board) (c : Call) → next_event b ≡ event c → events_of (suc left) b ≡ c ∷ events_of left (taking b c).board
unfolding events_of
events_event left b c e = ap (λ (r : Next). elim r [ none ↦ [] | event c ↦ c ∷ events_of left (taking b c).board ]) e

next_cases : (b : Board) → (next_event b ≡ none) ⊎ ((c : Call) × (next_event b ≡ event c))
next_cases b = go (next_event b) refl
  where
    go : (r : Next) → next_event b ≡ r → (next_event b ≡ none) ⊎ ((c : Call) × (next_event b ≡ event c))
    go none e = inl e
    go (event c) e = inr (c, e)

-- ---- actions of a list, and of two

action_one : (c : Call) (l : List Call) → is_action c ≡ true → actions (c ∷ l) ≡ suc (actions l)
unfolding actions
action_one (Offer site kind account other amount cut) l h = absurd (never h refl)
action_one (Receive form m from to cut) l h = refl
action_one (Order m) l h = refl
action_one (Read site cut) l h = refl
action_one (Crash site) l h = absurd (never h refl)

actions_append : (l r : List Call) → actions (l ++ r) ≡ actions l + actions r
unfolding actions
actions_append [] r = omega arith
actions_append (Offer site kind account other amount cut ∷ l) r = actions_append l r
actions_append (Receive form m from to cut ∷ l) r = omega (arith, actions_append l r)
actions_append (Order m ∷ l) r = omega (arith, actions_append l r)
actions_append (Read site cut ∷ l) r = omega (arith, actions_append l r)
actions_append (Crash site ∷ l) r = actions_append l r

accepted_append : (b : Board) (l r : List Call) → accepted_calls b (l ++ r) ≡ accepted_calls b l ++ accepted_calls (running b l) r
unfolding accepted_calls running
accepted_append b [] r = refl
accepted_append b (c ∷ l) r = go (accepted (taking b c).answer) (accepted_calls (taking b c).board (l ++ r)) (accepted_calls (taking b c).board l) (accepted_append (taking b c).board l r)
  where
    go : (v : Bool) (a d : List Call) → a ≡ d ++ accepted_calls (running (taking b c).board l) r → cond v (c ∷ a) a ≡ cond v (c ∷ d) d ++ accepted_calls (running (taking b c).board l) r
    go true a d e = ap (λ (k : List Call). c ∷ k) e
    go false a d e = e

accept_cons : (b : Board) (c : Call) (l : List Call) → accepted (taking b c).answer ≡ true → accepted_calls b (c ∷ l) ≡ c ∷ accepted_calls (taking b c).board l
unfolding accepted_calls
accept_cons b c l h = rw h

-- ---- what a drain does

pub record Does (b : Board) (left count : ℕ) (d : Drained) (l : List Call) : Type 0 where
  pub runs : d.board ≡ running b l
  pub all : accepted_calls b l ≡ l
  pub acts : actions l ≡ length l
  pub counts : d.count ≡ count + length l
  pub within : length l ≤ left
  pub ends : ((d.ending ≡ Quiet) × (is_quiet d.board ≡ true)) ⊎ ((d.ending ≡ Spent) × (length l ≡ left) × (is_quiet d.board ≡ false))

done_all : (limit count : ℕ) (b : Board) → Does b 0 count (draining 0 limit count b) (events_of 0 b)
unfolding draining events_of running accepted_calls actions
done_all limit count b = record {
  runs = refl;
  all = refl;
  acts = refl;
  counts = omega arith;
  within = omega arith;
  ends = elim (test (is_quiet b)) [ inl q ↦ inl (rw q, q) | inr q ↦ inr (rw q, refl, q) ];
}

done_quiet : (left limit count : ℕ) (b : Board) → is_quiet b ≡ true → Does b (suc left) count (record { board = b; limit = limit; count = count; ending = Quiet }) []
unfolding running accepted_calls actions
done_quiet left limit count b q = record { runs = refl; all = refl; acts = refl; counts = omega arith; within = omega arith; ends = inl (refl, q) }

done_more : (left count : ℕ) (b : Board) (c : Call) (d : Drained) (l : List Call) → accepted (taking b c).answer ≡ true → is_action c ≡ true
    → Does (taking b c).board left (count + 1) d l → Does b (suc left) count d (c ∷ l)
done_more left count b c d l ok act i = record {
  runs = i.runs ∙ sym (run_more b c l);
  all = accept_cons b c l ok ∙ ap (λ (k : List Call). c ∷ k) i.all;
  acts = action_one c l act ∙ ap suc i.acts;
  counts = omega (arith, i.counts);
  within = omega (arith, i.within);
  ends = elim i.ends [ inl q ↦ inl q | inr q ↦ inr (q.0, ap suc q.1, q.2) ];
}

pub does : (left limit count : ℕ) (b : Board) → Good b → Does b left count (draining left limit count b) (events_of left b)
does zero limit count b g = done_all limit count b
does (suc left) limit count b g = elim (next_cases b) [
  | inl e ↦ rw (draining_none left limit count b e, events_none left b e) (done_quiet left limit count b (next_none b g e))
  | inr e ↦ rw (draining_event left limit count b e.0 e.1, events_event left b e.0 e.1)
      (done_more left count b e.0 (draining left limit (count + 1) (taking b e.0).board) (events_of left (taking b e.0).board)
      (next_accepted b g e.0 e.1).0 (next_acts b g e.0 e.1) (does left limit (count + 1) (taking b e.0).board (call_good b g e.0)))
]

drained_sound : (b : Board) (limit : ℕ) → is_sound b ≡ true → drained b limit ≡ draining limit limit 0 b
unfolding drained
drained_sound b limit h = rw h

-- ---- a drain on a board that a list reached

module _ (setup : Setup) (ok : setup_ok setup ≡ true) (calls : List Call) (limit : ℕ) where
  abbrev b : Board
  b = running (fresh_board setup) calls

  good : Good b
  good = run_good (fresh_board setup) calls (fresh_good setup ok)

  drained_is : drained b limit ≡ draining limit limit 0 b
  drained_is = drained_sound b limit (facts_sound b good.shape (good_sites b good) good.sound)

  it : Does b limit 0 (drained b limit) (events_of limit b)
  it = rw drained_is (does limit limit 0 b good)

  most : ceiling_of setup.n ≤ 106
  most =
      let n = (setup_sites setup ok).1 in
      let s = mul-le-mul n n in
      omega arith

  -- all that was accepted before, with the events and one more, are too many
  too_many : (c : Call) → capacity * ceiling_of 7 ≤ length (events_of limit b) → accepted (taking (running b (events_of limit b)) c).answer ≡ true → is_action c ≡ true → ⊥
  too_many c many taken act =
      let events = events_of limit b in
      let more = calls ++ (events ++ (c ∷ [])) in
      let total = (agree_fresh setup ok more).total in
      let split : accepted_calls (fresh_board setup) more ≡ accepted_calls (fresh_board setup) calls ++ (events ++ (c ∷ [])) =
      accepted_append (fresh_board setup) calls (events ++ (c ∷ []))
      ∙ ap (λ (l : List Call). accepted_calls (fresh_board setup) calls ++ l)
      (accepted_append b events (c ∷ []) ∙ ap (λ (l : List Call). l ++ accepted_calls (running b events) (c ∷ [])) it.all
      ∙ ap (λ (l : List Call). events ++ l) (accept_cons (running b events) c [] taken ∙ ap (λ (l : List Call). c ∷ l) (no_calls (taking (running b events) c).board))) in
      let count : actions (accepted_calls (fresh_board setup) more) ≡ actions (accepted_calls (fresh_board setup) calls) + (length events + 1) =
      ap actions split ∙ actions_append (accepted_calls (fresh_board setup) calls) (events ++ (c ∷ []))
      ∙ ap (λ (k : ℕ). actions (accepted_calls (fresh_board setup) calls) + k) (actions_append events (c ∷ []) ∙ rw (it.acts, action_one c [] act, no_actions)) in
      let few = offers_few setup ok more in
      let bound = mul-le-mul most few in
      omega (arith, total, count, many, bound)
    where
      no_calls : (v : Board) → accepted_calls v [] ≡ []
      no_calls v = unfold accepted_calls in refl

      no_actions : actions [] ≡ 0
      no_actions = unfold actions in refl

  pub drain_says : DrainSays b limit
  drain_says = record {
    runs = it.runs;
    all_accepted = it.all;
    counts = omega (arith, it.counts);
    within = omega (arith, it.counts, it.within);
    next_accepted = next_accepted b good;
    next_none = next_none b good;
    quiet_next = quiet_next b good;
    ends = elim it.ends [ inl q ↦ inl q | inr q ↦ inr (q.0, omega (arith, it.counts, q.1), q.2) ];
    enough = λ h. elim it.ends [
      | inl q ↦ q.0
      | inr q ↦ absurd (spent (omega (arith, h)) q.1 q.2)
    ];
  }
    where
      spent : capacity * ceiling_of 7 ≤ limit → length (events_of limit b) ≡ limit → is_quiet (drained b limit).board ≡ false → ⊥
      spent h e q =
          let end : Good (running b (events_of limit b)) = run_good b (events_of limit b) good in
          let loud : is_quiet (running b (events_of limit b)) ≡ false = ap is_quiet (sym it.runs) ∙ q in
          elim (next_cases (running b (events_of limit b))) [
            | inl none_left ↦ never (next_none (running b (events_of limit b)) end none_left) loud
            | inr c ↦ too_many c.0 (omega arith) (next_accepted (running b (events_of limit b)) end c.0 c.1).0 (next_acts (running b (events_of limit b)) end c.0 c.1)
          ]

-- The number of `enough` is that of as many postings as a board holds, at the ceiling of seven sites.
pub drain_limit : capacity * ceiling_of 7 ≡ 27136
drain_limit = refl

-- ---- lists with drains among the calls

item_runs : (b : Board) → Good b → (i : Item) → board_after b i ≡ running b (stands_for b i)
item_runs b g (call c) = unfold running in refl
item_runs b g (drain limit) =
    let sound = facts_sound b g.shape (good_sites b g) g.sound in
    ap (λ (d : Drained). d.board) (drained_sound b limit sound) ∙ (does limit limit 0 b g).runs
    ∙ ap (λ (v : Bool). running b (cond v (events_of limit b) [])) (sym sound)

pub all_runs : (b : Board) → Good b → (items : List Item) → running_all b items ≡ running b (expanded b items)
unfolding running_all expanded
all_runs b g [] = unfold running in refl
all_runs b g (i ∷ l) =
    let same = item_runs b g i in
    let after : Good (board_after b i) = subst Good (sym same) (run_good b (stands_for b i) g) in
    all_runs (board_after b i) after l
    ∙ ap (λ (v : Board). running v (expanded (board_after b i) l)) same
    ∙ sym (run_append b (stands_for b i) (expanded (board_after b i) l))

module _ (n f matrix : ℕ) (ok : accepted (starting n f matrix).answer ≡ true) (items : List Item) where
  abbrev start : Board
  start = (starting n f matrix).board

  -- a list with drains from an accepted start is the list of its calls
  ends_there : running start (expanded start items) ≡ running_all start items
  ends_there =
      let (e, set) = start_taken n f matrix ok in
      sym (all_runs start (subst Good (sym e) (fresh_good (record { n = n; f = f; matrix = matrix }) set)) items)

  -- The books agree after every list with drains.
  pub books_agree_drains : BooksAgreeAfterAll n matrix start items
  books_agree_drains = subst (BooksAgree n matrix start (expanded start items) (accepted_calls start (expanded start items))) ends_there
      (books_agree n f matrix ok (expanded start items))

  -- And so do accounts, one at a time.
  pub accounts_agree_drains : AccountsAgree n (running_all start items)
  accounts_agree_drains = subst (AccountsAgree n) ends_there (accounts_agree n f matrix ok (expanded start items))

-- What a drain says on every board that a list reaches from an accepted start.
pub drain_says_reached : (n f matrix : ℕ) → accepted (starting n f matrix).answer ≡ true → (calls : List Call) (limit : ℕ) → DrainSays (running (starting n f matrix).board calls) limit
drain_says_reached n f matrix ok calls limit =
    let (e, set) = start_taken n f matrix ok in
    subst (λ (b : Board). DrainSays (running b calls) limit) (sym e) (drain_says (record { n = n; f = f; matrix = matrix }) set calls limit)
