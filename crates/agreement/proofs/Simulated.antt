-- Every list of calls is a run of the theory: each accepted call an event, each refused one nothing; with what is counted on both sides.
-- Rests on the events' proofs, Along and Begins. Assumes nothing.
use Prim.Native.Nat.{ℕ, zero, suc, ◌+◌, ◌<◌, ◌≤◌}
use mathlib.Core.Path.{◌≡◌, refl, sym, ap, ◌∙◌, subst}
use mathlib.Core.Logic.{◌⊎◌, inl, inr}
use mathlib.Core.Bool.{Bool, true, false, cond}
use mathlib.Core.List.{List, [], ◌∷◌, ◌++◌, append-nil, append_assoc}
use native.Mathlib.Omega.{arith}
use lib.Dec.{eqb}
use lib.ListN.{length, get_or, replicate}
use lib.Seq.{get_or-take}
use Rattle.sets.proofs.Truth.{test, never}
use Rattle.posting.specs.Records.{numbers_of}
use Rattle.site.specs.declared.Setup.{Setup}
use Rattle.site.specs.Sites.{sites}
use Rattle.site.specs.Sends.{FIRST, SECOND, THIRD, DELIVER}
use Rattle.flight.specs.Flights.{in_flight}
use Rattle.flight.proofs.ArrayLaws.{message_range}
use Rattle.machine.specs.declared.Board.{Board}
use Rattle.steps.specs.declared.Cut.{Cut}
use Rattle.steps.specs.declared.Call.{Call}
use Rattle.steps.specs.declared.Call.TheVariants.{Offer, Receive, Order, Read, Crash}
use Rattle.machine.specs.Boards.{fresh_board, board_table, site_at}
use Rattle.posting.specs.Conflicts.{table_with}
use Rattle.machine.specs.Calls.{receipt_of, offering, receiving, ordering, reading, crashing}
use Rattle.machine.specs.Soundness.{setup_ok}
use Rattle.machine.specs.Runs.{taking, accepted, running, is_action}
use Rattle.machine.specs.History.{accepted_calls, orders, reads, names, naming, actions}
use Rattle.invariants.proofs.Judged.{OfferTaken, ReceiptTaken, ReadTaken, offer_taken, receipt_taken, order_taken, read_taken, crash_taken, refused_same, offer_step, posting_of, next_logged}
use Rattle.invariants.proofs.CarriedOut.{out_table}
use Rattle.invariants.proofs.Grow.{Grows}
use Rattle.invariants.proofs.History.{Done, call_done}
use Rattle.invariants.proofs.Reached.{Good, good_sites, call_good, run_good}
use Rattle.invariants.proofs.Start.{fresh_good, fresh_done}
use Rattle.broadcast.specs.Counts.{bit}
use Rattle.broadcast.specs.Machine.{World, State}
use Rattle.broadcast.specs.Machine as theory
use Rattle.broadcast.specs.Runs.{Event, Allowed, does, Reached, start, next, spent, next_at}
use Rattle.broadcast.specs.Runs as runs
use Rattle.broadcast.proofs.Safety.{safe}
use Rattle.broadcast.proofs.Ceiling.{acts}
use Rattle.broadcast.proofs.Ceiling as ceiling
use Rattle.agreement.proofs.World.{Earlier}
use Rattle.agreement.proofs.Casts.{cut_by, eqb_turned}
use Rattle.agreement.proofs.Shows.{Shows}
use Rattle.agreement.proofs.Ground.{W, Seen, few_sites}
use Rattle.agreement.proofs.OnFirst.{first_allowed, first_shows}
use Rattle.agreement.proofs.OnSecond.{second_allowed, second_shows}
use Rattle.agreement.proofs.OnThird.{third_allowed, third_shows}
use Rattle.agreement.proofs.OnDeliver.{deliver_allowed, deliver_shows}
use Rattle.agreement.proofs.OnOffer.{offer_allowed, offer_shows}
use Rattle.agreement.proofs.OnOrder.{order_allowed, order_shows, crash_allowed, crash_shows}
use Rattle.agreement.proofs.OnRead.{read_allowed, read_shows, next_is}
use Rattle.agreement.proofs.Along.{call_earlier, run_earlier}
use Rattle.agreement.proofs.Begins.{fresh_shows}

-- ---- a call more at the end of a list

naming_last : (m : ℕ) (before l : List Call) (c : Call) → naming m before (l ++ (c ∷ [])) ≡ naming m before l + bit (names m (before ++ l) c)
unfolding naming
naming_last m before [] c = rw append-nil (one (names m before c))
  where
    one : (v : Bool) → cond v 1 0 + 0 ≡ 0 + bit v
    one true = refl
    one false = refl
naming_last m before (d ∷ l) c =
    let same : ((before ++ (d ∷ [])) ++ l) ≡ before ++ (d ∷ l) = append_assoc before (d ∷ []) l in
    omega (arith, naming_last m (before ++ (d ∷ [])) l c, ap (λ (k : List Call). bit (names m k c)) same)

actions_last : (l : List Call) (c : Call) → actions (l ++ (c ∷ [])) ≡ actions l + bit (is_action c)
unfolding actions
actions_last [] (Offer site kind account other amount cut) = refl
actions_last [] (Receive form m from to cut) = refl
actions_last [] (Order m) = refl
actions_last [] (Read site cut) = refl
actions_last [] (Crash site) = refl
actions_last (Offer site kind account other amount cut ∷ l) c = actions_last l c
actions_last (Receive form m from to cut ∷ l) c = omega (arith, actions_last l c)
actions_last (Order m ∷ l) c = omega (arith, actions_last l c)
actions_last (Read site cut ∷ l) c = omega (arith, actions_last l c)
actions_last (Crash site ∷ l) c = actions_last l c

-- ---- a call at the head of a list

run_none : (b : Board) → running b [] ≡ b
unfolding running
run_none b = refl

pub run_more : (b : Board) (c : Call) (l : List Call) → running b (c ∷ l) ≡ running (taking b c).board l
unfolding running
run_more b c l = refl

accepted_none : (b : Board) (done : List Call) → done ++ accepted_calls b [] ≡ done
unfolding accepted_calls
accepted_none b done = append-nil done

accepted_more : (b : Board) (c : Call) (l done : List Call)
    → done ++ accepted_calls b (c ∷ l) ≡ cond (accepted (taking b c).answer) (done ++ (c ∷ [])) done ++ accepted_calls (taking b c).board l
unfolding accepted_calls
accepted_more b c l done = go (accepted (taking b c).answer) (accepted_calls (taking b c).board l)
  where
    go : (v : Bool) (rest : List Call) → done ++ cond v (c ∷ rest) rest ≡ cond v (done ++ (c ∷ [])) done ++ rest
    go true rest = sym (append_assoc done (c ∷ []) rest)
    go false rest = refl

-- what every call keeps, of the board and of what was accepted, holds at the end of a run
along_run : (last : Board) (P : Board → List Call → Type 0)
    → ((b : Board) (done : List Call) (c : Call) (l : List Call) → running (taking b c).board l ≡ last → P b done → P (taking b c).board (cond (accepted (taking b c).answer) (done ++ (c ∷ [])) done))
    → (b : Board) (l done : List Call) → running b l ≡ last → P b done → P last (done ++ accepted_calls b l)
along_run last P step b [] done e i = subst (λ (d : List Call). P last d) (sym (accepted_none b done)) (subst (λ (v : Board). P v done) (sym (run_none b) ∙ e) i)
along_run last P step b (c ∷ l) done e i =
    subst (λ (d : List Call). P last d) (sym (accepted_more b c l done))
    (along_run last P step (taking b c).board l (cond (accepted (taking b c).answer) (done ++ (c ∷ [])) done) (sym (run_more b c l) ∙ e)
    (step b done c l (sym (run_more b c l) ∙ e) i))

module _ (last : Board) (g : Good last) where
  -- a board of the list, what was accepted up to it, and the run that shows it
  pub record Simulated (b : Board) (done : List Call) : Type 0 where
    pub events : List Event
    pub state : State
    pub reached : Reached (W last g) events state
    pub seen : Seen last g b state
    pub spends : (m : ℕ) → spent reached m ≡ naming m [] done
    pub acted : ceiling.actions events ≡ actions done

  module _ (b : Board) (done : List Call) (i : Simulated b done) (had : Done b done) where
    abbrev s : State
    s = i.state

    abbrev k : Seen last g b i.state
    k = i.seen

    onward : (after : Board) → Good after → Earlier after last → (c : Call) (e : Event) → Allowed (W last g) s e → Shows (W last g) after (does (W last g) s e)
        → ((m : ℕ) → runs.names (W last g) s e m ≡ names m done c) → acts e ≡ is_action c → Simulated after (done ++ (c ∷ []))
    onward after good earlier c e allowed shows same act = record {
      events = e ∷ i.events;
      state = does (W last g) s e;
      reached = next i.reached e allowed;
      seen = record { good = good; earlier = earlier; shows = shows };
      spends = λ m. unfold spent in omega (arith, i.spends m, ap bit (same m), naming_last m [] done c);
      acted = omega (arith, i.acted, ap bit act, actions_last done c);
    }

    receipt : (form m from to : ℕ) (cut : Cut) → ReceiptTaken b form m from to cut → Good (receiving b form m from to cut).board → Earlier (receiving b form m from to cut).board last
        → Simulated (receiving b form m from to cut).board (done ++ (Receive form m from to cut ∷ []))
    unfolding receipt_of names
    receipt zero m from to cut t good earlier = onward (receiving b 0 m from to cut).board good earlier (Receive 0 m from to cut) (Event.first m from to _)
        (first_allowed last g b s k m from to cut t) (rw t.board (first_shows last g b s k m from to cut t)) (λ x. eqb_turned m x) refl
    receipt (suc zero) m from to cut t good earlier = onward (receiving b 1 m from to cut).board good earlier (Receive 1 m from to cut) (Event.second m from to _)
        (second_allowed last g b s k (safe (W last g) i.reached) m from to cut t) (rw t.board (second_shows last g b s k (safe (W last g) i.reached) m from to cut t)) (λ x. eqb_turned m x) refl
    receipt (suc (suc zero)) m from to cut t good earlier = onward (receiving b 2 m from to cut).board good earlier (Receive 2 m from to cut) (Event.third m from _)
        (third_allowed last g b s k (safe (W last g) i.reached) m from to cut t) (rw t.board (third_shows last g b s k (safe (W last g) i.reached) m from to cut t)) (λ x. eqb_turned m x) refl
    receipt (suc (suc (suc zero))) m from to cut t good earlier = onward (receiving b 3 m from to cut).board good earlier (Receive 3 m from to cut) (Event.deliver m from to _)
        (deliver_allowed last g b s k m from to cut t) (rw t.board (deliver_shows last g b s k m from to cut t)) (λ x. eqb_turned m x) refl
    receipt (suc (suc (suc (suc form)))) m from to cut t good earlier =
        let (h, _, _, _) = message_range b.flight.masks (suc (suc (suc (suc form)))) m from to (unfold in_flight in t.coming) in absurd (omega arith)

    -- the entry that a reading names, on the list and in the log
    reads_entry : (p : ℕ) (cut : Cut) (t : ReadTaken b p cut) (c : theory.Cut) (x : ℕ) → runs.names (W last g) s (Event.read p c) x ≡ names x done (Read p cut)
    unfolding names
    reads_entry p cut t c x =
        let place = had.places p t.acts.there in
        let entry : get_or (orders done) (reads p done) 0 ≡ next_logged b p =
        rw (← place, ← had.log) (unfold numbers_of in get_or-take b.log.count b.log.numbers (site_at b p).place 0 t.left) in
        rw (next_is last g b s k p cut t, entry) (eqb_turned (next_logged b p) x)

    call : (c : Call) → Good (taking b c).board → Earlier (taking b c).board last → accepted (taking b c).answer ≡ true → Simulated (taking b c).board (done ++ (c ∷ []))
    unfolding taking names
    call (Offer p kind account other amount cut) good earlier h =
        let t = offer_taken b p kind account other amount cut h in
        let table = table_with b.table (posting_of p kind account other amount) in
        let later : Grows table last.table = rw (t.board, out_table (board_table b table) p b.table.count (offer_step b p) cut) at earlier.grows in
        onward (offering b p kind account other amount cut).board good earlier (Offer p kind account other amount cut) (Event.offer b.table.count (cut_by (λ x. x) cut))
        (offer_allowed last g b s k p kind account other amount cut t later) (rw t.board (offer_shows last g b s k p kind account other amount cut t later)) (λ x. refl) refl
    call (Receive form m from to cut) good earlier h = receipt form m from to cut (receipt_taken b form m from to cut h) good earlier
    call (Order m) good earlier h =
        let t = order_taken b m h in
        onward (ordering b m).board good earlier (Order m) (Event.order m) (order_allowed last g b s k m t) (rw t.board (order_shows last g b s k m t)) (λ x. eqb_turned m x) refl
    call (Read p cut) good earlier h =
        let t = read_taken b p cut h in
        onward (reading b p cut).board good earlier (Read p cut) (Event.read p (cut_by (λ x. x) cut)) (read_allowed last g b s k p cut t) (rw t.board (read_shows last g b s k p cut t)) (reads_entry p cut t (cut_by (λ x. x) cut)) refl
    call (Crash p) good earlier h =
        let t = crash_taken b p h in
        onward (crashing b p).board good earlier (Crash p) (Event.crash p) (crash_allowed last g b s k p t) (rw t.board (crash_shows last g b s k p t)) (λ x. refl) refl

    -- a call, accepted or refused
    taken : (c : Call) → Earlier (taking b c).board last → Simulated (taking b c).board (cond (accepted (taking b c).answer) (done ++ (c ∷ [])) done)
    taken c earlier = elim (test (accepted (taking b c).answer)) [
      | inl t ↦ rw t (call c (call_good b k.good c) earlier t)
      | inr t ↦ rw (t, refused_same b c t) i
    ]

  along : (b : Board) (l done : List Call) → running b l ≡ last → Simulated b done → Done b done → Simulated last (done ++ accepted_calls b l)
  along b l done e i had = (along_run last (λ (v : Board) (d : List Call). Simulated v d × Done v d)
      (λ v d c r e k.
      let earlier : Earlier (taking v c).board last = rw e at (run_earlier (taking v c).board r) in
      (taken v d k.0 k.1 c earlier, call_done v k.0.seen.good.shape (good_sites v k.0.seen.good) d k.1 c))
      b l done e (i, had)).0

  -- a list from a fresh board
  pub simulated : (setup : Setup) → setup_ok setup ≡ true → (calls : List Call) → running (fresh_board setup) calls ≡ last → Simulated last (accepted_calls (fresh_board setup) calls)
  simulated setup ok calls e =
      along (fresh_board setup) calls [] e
      (record {
        events = [];
        state = runs.blank;
        reached = start;
        seen = record { good = fresh_good setup ok; earlier = rw e at (run_earlier (fresh_board setup) calls); shows = fresh_shows (W last g) setup (good_sites last g) };
        spends = λ m. unfold spent naming in refl;
        acted = unfold actions in refl;
      })
      (fresh_done setup ok)
