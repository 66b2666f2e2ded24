-- What it says that a call was accepted: none of its causes of refusal applies, and the board is what the step makes of it.
-- A refused call hands back the board as it was. Rests on machine's definitions. Assumes nothing.
use Prim.Native.Nat.{ℕ, ◌<◌, ◌≤◌}
use mathlib.Core.Path.{◌≡◌, refl, sym, ap, ◌∙◌}
use mathlib.Core.Logic.{◌⊎◌, inl, inr}
use mathlib.Core.Bool.{Bool, true, false, cond, not, ◌&&◌, ◌||◌}
use mathlib.Core.List.{List, [], ◌∷◌}
use native.Mathlib.Omega.{arith}
use lib.Dec.{eqb, ltb, leb}
use lib.ListN.{length}
use lib.Count.{ones}
use borrow.Author.Tests.{ltb-false, leb-false}
use Rattle.sets.proofs.Truth.{test, never, not_so, and_intro, or_neither}
use Rattle.sets.specs.Sets.{capacity, has, without}
use Rattle.posting.specs.declared.Posting.{Posting}
use Rattle.posting.specs.Kinds.{fields_ok}
use Rattle.posting.specs.Records.{append}
use Rattle.site.specs.Sites.{plus}
use Rattle.site.specs.Sends.{Step}
use Rattle.site.specs.Steps.{on_offer, on_entry}
use Rattle.flight.specs.Flights.{in_flight, taking_out}
use Rattle.machine.specs.declared.Board.{Board}
use Rattle.steps.specs.declared.Cut.{Cut}
use Rattle.steps.specs.declared.Cut.TheVariants.{Whole, After}
use Rattle.steps.specs.declared.Call.{Call}
use Rattle.steps.specs.declared.Call.TheVariants.{Offer, Receive, Order, Read, Crash}
use Rattle.machine.specs.declared.Answer.{Answer}
use Rattle.machine.specs.declared.Answer.TheVariants.{Done, Offered, Refused}
use Rattle.machine.specs.declared.Outcome.{Outcome}
use Rattle.machine.specs.Boards.{site_at, tally_at, entry_at, logged_at, is_down, board_table, board_flight, board_down, board_pool}
use Rattle.posting.specs.Conflicts.{table_with}
use Rattle.machine.specs.Soundness.{is_sound}
use Rattle.steps.specs.Causes.{Cause, cause, is_cut, cut_after}
use Rattle.machine.specs.Calls.{judged, carried_out, crashes_spent, no_such_site, receipt_of, offering, receiving, ordering, reading, crashing}
use Rattle.machine.specs.Runs.{taking, accepted}

-- ---- a list of causes

abbrev pub NoneApply : List Cause → Type 0
NoneApply [] = Unit {0}
NoneApply (c ∷ l) = (c.applies ≡ false) × NoneApply l

pub judged_either : (l : List Cause) (back : Board) (taken : Outcome)
    → ((judged l back taken ≡ taken) × NoneApply l) ⊎ ((k : ℕ) × (judged l back taken ≡ record { board = back; answer = Refused k }))
unfolding judged
judged_either [] back taken = inl (refl, tt)
judged_either (c ∷ l) back taken = elim (test c.applies) [
  | inl t ↦ inr (c.number, rw t)
  | inr f ↦ elim (judged_either l back taken) [
    | inl h ↦ inl (rw f h.0, (f, h.1))
    | inr h ↦ inr (h.0, rw f h.1)
  ]
]

-- an accepted answer is not a refusal
pub accepted_none : (l : List Cause) (back : Board) (taken : Outcome) → accepted (judged l back taken).answer ≡ true → (judged l back taken ≡ taken) × NoneApply l
accepted_none l back taken h = elim (judged_either l back taken) [
  | inl k ↦ k
  | inr k ↦ absurd (never (ap (λ (o : Outcome). accepted o.answer) (sym k.1) ∙ h) refl)
]

-- a refused answer hands the board back
pub refused_back : (l : List Cause) (back : Board) (taken : Outcome) → accepted taken.answer ≡ true → accepted (judged l back taken).answer ≡ false → (judged l back taken).board ≡ back
refused_back l back taken good h = elim (judged_either l back taken) [
  | inl k ↦ absurd (never (ap (λ (o : Outcome). accepted o.answer) k.0 ∙ good) h)
  | inr k ↦ ap (λ (o : Outcome). o.board) k.1
]

no_not : (b : Bool) → not b ≡ false → b ≡ true
no_not true e = refl
no_not false e = sym e

-- ---- what holds where a call is accepted

-- a step at a site that may act, whole, or cut as far as the crashes and the sends allow
pub record Acts (b : Board) (p : ℕ) (step : Step) (cut : Cut) : Type 0 where
  pub there : p < b.setup.n
  pub up : is_down b p ≡ false
  pub crashes : is_cut cut ≡ true → ones b.down < b.setup.f
  pub within : cut_after cut ≤ length step.sends

abbrev pub posting_of : ℕ → ℕ → ℕ → ℕ → ℕ → Posting
posting_of site kind account other amount = record { owner = site; kind = kind; a = account; b = other; amount = amount }

abbrev pub offer_step : Board → ℕ → Step
offer_step b site = on_offer b.setup (site_at b site) (tally_at b b.table.count) b.table.count

pub record OfferTaken (b : Board) (site kind account other amount : ℕ) (cut : Cut) : Type 0 where
  pub sound : is_sound b ≡ true
  pub acts : Acts b site (offer_step b site) cut
  pub fields : fields_ok (posting_of site kind account other amount) ≡ true
  pub room : b.table.count < capacity
  pub board : (offering b site kind account other amount cut).board
      ≡ carried_out (board_table b (table_with b.table (posting_of site kind account other amount))) site b.table.count (offer_step b site) cut
  pub answer : (offering b site kind account other amount cut).answer ≡ Offered b.table.count

pub record ReceiptTaken (b : Board) (form m from to : ℕ) (cut : Cut) : Type 0 where
  pub sound : is_sound b ≡ true
  pub sender : from < b.setup.n
  pub acts : Acts b to (receipt_of b form m from to) cut
  pub coming : in_flight b.flight form m from to ≡ true
  pub board : (receiving b form m from to cut).board ≡ carried_out (board_flight b (taking_out b.flight form m from to)) to m (receipt_of b form m from to) cut

pub record OrderTaken (b : Board) (m : ℕ) : Type 0 where
  pub sound : is_sound b ≡ true
  pub pooled : has b.pool m ≡ true
  pub board : (ordering b m).board ≡ board_pool b (without b.pool m) b.entries (append b.log m)

-- the entry that a site reads next, and the step
abbrev pub next_logged : Board → ℕ → ℕ
next_logged b site = logged_at b (site_at b site).place

abbrev pub read_step : Board → ℕ → Step
read_step b site = on_entry (site_at b site) (tally_at b (next_logged b site)) (next_logged b site) (entry_at b (next_logged b site))

pub record ReadTaken (b : Board) (site : ℕ) (cut : Cut) : Type 0 where
  pub sound : is_sound b ≡ true
  pub acts : Acts b site (read_step b site) cut
  pub left : (site_at b site).place < b.log.count
  pub board : (reading b site cut).board ≡ carried_out b site (next_logged b site) (read_step b site) cut

pub record CrashTaken (b : Board) (site : ℕ) : Type 0 where
  pub sound : is_sound b ≡ true
  pub there : site < b.setup.n
  pub up : is_down b site ≡ false
  pub crashes : ones b.down < b.setup.f
  pub board : (crashing b site).board ≡ board_down b (plus b.down site)

-- ---- accepted, so taken

acts : (b : Board) (p : ℕ) (step : Step) (cut : Cut) → no_such_site b p ≡ false → is_down b p ≡ false → (is_cut cut && crashes_spent b) ≡ false
    → ltb (length step.sends) (cut_after cut) ≡ false → Acts b p step cut
acts b p step cut site up may within = record {
  there = leb-false b.setup.n p site;
  up = up;
  crashes = λ c. leb-false b.setup.f (ones b.down) (not_so (crashes_spent b) (λ k. never (and_intro (is_cut cut) (crashes_spent b) c k) may));
  within = ltb-false (length step.sends) (cut_after cut) within;
}

pub offer_taken : (b : Board) (site kind account other amount : ℕ) (cut : Cut) → accepted (offering b site kind account other amount cut).answer ≡ true
    → OfferTaken b site kind account other amount cut
unfolding offering
offer_taken b site kind account other amount cut h =
    let (e, none) = accepted_none _ b _ h in
    record {
      sound = no_not (is_sound b) none.0;
      acts = acts b site (offer_step b site) cut none.1.0 none.1.1.0 none.1.1.1.1.1.0 none.1.1.1.1.1.1.0;
      fields = no_not (fields_ok (posting_of site kind account other amount)) none.1.1.1.0;
      room = leb-false capacity b.table.count none.1.1.1.1.0;
      board = ap (λ (o : Outcome). o.board) e;
      answer = ap (λ (o : Outcome). o.answer) e;
    }

pub receipt_taken : (b : Board) (form m from to : ℕ) (cut : Cut) → accepted (receiving b form m from to cut).answer ≡ true → ReceiptTaken b form m from to cut
unfolding receiving
receipt_taken b form m from to cut h =
    let (e, none) = accepted_none _ b _ h in
    let (no-from, no-to) = or_neither (no_such_site b from) (no_such_site b to) none.1.0 in
    record {
      sound = no_not (is_sound b) none.0;
      sender = leb-false b.setup.n from no-from;
      acts = acts b to (receipt_of b form m from to) cut no-to none.1.1.0 none.1.1.1.1.0 none.1.1.1.1.1.0;
      coming = no_not (in_flight b.flight form m from to) none.1.1.1.0;
      board = ap (λ (o : Outcome). o.board) e;
    }

pub order_taken : (b : Board) (m : ℕ) → accepted (ordering b m).answer ≡ true → OrderTaken b m
unfolding ordering
order_taken b m h =
    let (e, none) = accepted_none _ b _ h in
    record {
      sound = no_not (is_sound b) none.0;
      pooled = no_not (has b.pool m) none.1.0;
      board = ap (λ (o : Outcome). o.board) e;
    }

pub read_taken : (b : Board) (site : ℕ) (cut : Cut) → accepted (reading b site cut).answer ≡ true → ReadTaken b site cut
unfolding reading
read_taken b site cut h =
    let (e, none) = accepted_none _ b _ h in
    record {
      sound = no_not (is_sound b) none.0;
      acts = acts b site (read_step b site) cut none.1.0 none.1.1.0 none.1.1.1.1.0 none.1.1.1.1.1.0;
      left = leb-false b.log.count (site_at b site).place none.1.1.1.0;
      board = ap (λ (o : Outcome). o.board) e;
    }

pub crash_taken : (b : Board) (site : ℕ) → accepted (crashing b site).answer ≡ true → CrashTaken b site
unfolding crashing
crash_taken b site h =
    let (e, none) = accepted_none _ b _ h in
    record {
      sound = no_not (is_sound b) none.0;
      there = leb-false b.setup.n site none.1.0;
      up = none.1.1.0;
      crashes = leb-false b.setup.f (ones b.down) none.1.1.1.0;
      board = ap (λ (o : Outcome). o.board) e;
    }

-- ---- refused, so unchanged

pub refused_same : (b : Board) (c : Call) → accepted (taking b c).answer ≡ false → (taking b c).board ≡ b
unfolding taking
refused_same b (Offer site kind account other amount cut) h = unfold offering in refused_back _ b _ refl h
refused_same b (Receive form m from to cut) h = unfold receiving in refused_back _ b _ refl h
refused_same b (Order m) h = unfold ordering in refused_back _ b _ refl h
refused_same b (Read site cut) h = unfold reading in refused_back _ b _ refl h
refused_same b (Crash site) h = unfold crashing in refused_back _ b _ refl h
