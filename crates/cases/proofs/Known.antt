-- Calls, runs, drains, books and what is printed without cause 6, the test of soundness, which takes most steps; on a board sound and in shape they are the same.
-- Rests on Trials, on machine, drain, runfile and invariants. Assumes nothing.
use Prim.Native.Nat.{ℕ, zero, suc, ◌+◌, ◌*◌}
use mathlib.Core.Path.{◌≡◌, refl, ap, ◌∙◌}
use mathlib.Core.Bool.{Bool, true, false, cond, not}
use mathlib.Core.Logic.{inl, inr}
use mathlib.Core.List.{List, [], ◌∷◌, ◌++◌, map}
use lib.Dec.{eqb, ltb, leb}
use lib.IntN.{ℤ}
use lib.ListN.{length}
use borrow.Author.Tests.{eqb-true}
use Rattle.sets.proofs.Truth.{test, never}
use Rattle.sets.specs.Sets.{has, without}
use Rattle.posting.specs.Conflicts.{table_with}
use Rattle.posting.specs.Records.{append}
use Rattle.site.specs.Sites.{plus}
use Rattle.site.specs.Sends.{Step}
use Rattle.flight.specs.Flights.{in_flight, taking_out}
use Rattle.steps.specs.Causes.{Cause, cause}
use Rattle.steps.specs.CauseLists.{site_causes, message_causes, offer_causes, cut_causes}
use Rattle.steps.specs.declared.Cut.{Cut}
use Rattle.steps.specs.declared.Call.{Call}
use Rattle.steps.specs.declared.Call.TheVariants.{Offer, Receive, Order, Read, Crash}
use Rattle.machine.specs.declared.Board.{Board}
use Rattle.machine.specs.declared.Answer.{Answer}
use Rattle.machine.specs.declared.Answer.TheVariants.{Offered}
use Rattle.machine.specs.declared.Outcome.{Outcome}
use Rattle.machine.specs.Boards.{site_at, board_table, board_flight, board_down, board_pool}
use Rattle.machine.specs.ByMask.{taken}
use Rattle.machine.specs.Soundness.{is_sound}
use Rattle.machine.specs.Calls.{refusal_of, judged, starting, carried_out, crashes_spent, no_such_site, receipt_of, offering, receiving, ordering, reading, crashing}
use Rattle.machine.specs.Runs.{taking, accepted, running, answers, is_quiet}
use Rattle.machine.specs.Figures.{Shown, figures_of, figures_of_all, shown, showing, showing_all}
use Rattle.machine.proofs.Shapes.{BoardShape}
use Rattle.machine.proofs.SoundTest.{sound_facts, facts_sound}
use Rattle.drain.specs.declared.Ending.TheVariants.{Quiet, Spent}
use Rattle.drain.specs.declared.Drained.{Drained}
use Rattle.drain.specs.Drain.{Next, none, event, next_event, draining, drained}
use Rattle.decoder.specs.RunFile.{setup_of, well_formed, calls_of}
use Rattle.printer.specs.Output.{refused_line, printed_of}
use Rattle.runfile.specs.Program.{ended_on, refusals, printed_run, printed_from, printed}
use Rattle.runfile.proofs.Programs.{start_accepted}
use Rattle.invariants.proofs.Judged.{posting_of, offer_step, read_step, next_logged}
use Rattle.invariants.proofs.Reached.{GoodIf, good_sites, call_good}
use Rattle.invariants.proofs.Start.{reached_good, reached_sound}
use Rattle.cases.specs.Trials.{Result, answer, left, looked, view}

-- ---- the calls

-- causes 14 and 15 of a step
abbrev step_causes : Board → Step → Cut → List Cause
step_causes b step cut = cut_causes b.setup.f b.down (length step.sends) cut

-- what a call does, with its causes from 7 on
unfoldable pub taking_known : Board → Call → Outcome
taking_known b (Offer site kind account other amount cut) =
    let posting = posting_of site kind account other amount in
    let m = b.table.count in
    let step = offer_step b site in
    judged (site_causes b.setup.n b.down site ++ (offer_causes posting m ++ step_causes b step cut)) b
    (record { board = carried_out (board_table b (table_with b.table posting)) site m step cut; answer = Offered m })
taking_known b (Receive form m from to cut) =
    let step = receipt_of b form m from to in
    judged (message_causes b.setup.n b.down from to ++ (cause 11 (not (in_flight b.flight form m from to)) ∷ step_causes b step cut)) b
    (taken (carried_out (board_flight b (taking_out b.flight form m from to)) to m step cut))
taking_known b (Order m) =
    judged (cause 12 (not (has b.pool m)) ∷ []) b (taken (board_pool b (without b.pool m) b.entries (append b.log m)))
taking_known b (Read site cut) =
    let step = read_step b site in
    judged (site_causes b.setup.n b.down site ++ (cause 13 (leb b.log.count (site_at b site).place) ∷ step_causes b step cut)) b
    (taken (carried_out b site (next_logged b site) step cut))
taking_known b (Crash site) =
    judged (site_causes b.setup.n b.down site ++ (cause 14 (crashes_spent b) ∷ [])) b (taken (board_down b (plus b.down site)))

-- the first cause does not apply
judged_on : (l : List Cause) (back : Board) (accepted : Outcome) (b : Board) → is_sound b ≡ true
    → judged (cause 6 (not (is_sound b)) ∷ l) back accepted ≡ judged l back accepted
unfolding judged
judged_on l back accepted b e = rw e

pub taking_known_lem : (b : Board) → is_sound b ≡ true → (c : Call) → taking b c ≡ taking_known b c
unfolding taking taking_known offering receiving ordering reading crashing
taking_known_lem b e (Offer site kind account other amount cut) = judged_on _ b _ b e
taking_known_lem b e (Receive form m from to cut) = judged_on _ b _ b e
taking_known_lem b e (Order m) = judged_on _ b _ b e
taking_known_lem b e (Read site cut) = judged_on _ b _ b e
taking_known_lem b e (Crash site) = judged_on _ b _ b e

-- ---- runs

unfoldable pub running_known : Board → List Call → Board
running_known b [] = b
running_known b (c ∷ l) = running_known (taking_known b c).board l

unfoldable pub answers_known : Board → List Call → List Answer
answers_known b [] = []
answers_known b (c ∷ l) = let outcome = taking_known b c in outcome.answer ∷ answers_known outcome.board l

-- sound and in shape: every call keeps a board so (invariants)
abbrev pub Fit : Board → Type 0
Fit b = GoodIf false b

-- such a board passes the test
pub fit_sound : (b : Board) → Fit b → is_sound b ≡ true
fit_sound b g = facts_sound b g.shape (good_sites b g) g.sound

-- and one in shape that passes it is so; the board of an accepted start is
pub sound_fit : (b : Board) → BoardShape b → is_sound b ≡ true → Fit b
sound_fit b shape sound = record { shape = shape; sound = sound_facts b shape.flight.masks.long sound; blank = λ e. absurd (never e refl) }

pub start_fit : (n f matrix : ℕ) → accepted (starting n f matrix).answer ≡ true → Fit (starting n f matrix).board
unfolding running
start_fit n f matrix ok = sound_fit (starting n f matrix).board (reached_good n f matrix ok []).shape (reached_sound n f matrix ok [])

pub running_known_lem : (b : Board) (l : List Call) → Fit b → running b l ≡ running_known b l
unfolding running running_known
running_known_lem b [] g = refl
running_known_lem b (c ∷ l) g =
    running_known_lem (taking b c).board l (call_good b g c)
    ∙ ap (λ (o : Outcome). running_known o.board l) (taking_known_lem b (fit_sound b g) c)

pub answers_known_lem : (b : Board) (l : List Call) → Fit b → answers b l ≡ answers_known b l
unfolding answers answers_known
answers_known_lem b [] g = refl
answers_known_lem b (c ∷ l) g =
    ap (λ (rest : List Answer). (taking b c).answer ∷ rest) (answers_known_lem (taking b c).board l (call_good b g c))
    ∙ ap (λ (o : Outcome). o.answer ∷ answers_known o.board l) (taking_known_lem b (fit_sound b g) c)

-- ---- drains

-- a drain that has something left of its limit, by what comes next and what an event leads to
abbrev goes_on : ℕ → ℕ → Board → (Call → Drained) → Next → Drained
goes_on limit count b after next = elim next [
  | none ↦ record { board = b; limit = limit; count = count; ending = Quiet }
  | event c ↦ after c
]

unfoldable pub draining_known : ℕ → ℕ → ℕ → Board → Drained
draining_known zero limit count b =
    record { board = b; limit = limit; count = count; ending = cond (is_quiet b) Quiet Spent }
draining_known (suc more) limit count b = goes_on limit count b (λ c. draining_known more limit (count + 1) (taking_known b c).board) (next_event b)

goes_on_known : (limit count : ℕ) (b : Board) (after known : Call → Drained) → Fit b → ((c : Call) → (after c ≡ known c) × Fit (after c).board)
    → (next : Next)
    → (goes_on limit count b after next ≡ goes_on limit count b known next) × Fit (goes_on limit count b after next).board
goes_on_known limit count b after known g each none = (refl, g)
goes_on_known limit count b after known g each (event c) = each c

-- the same, and the board stays sound and in shape
draining_known_lem : (more limit count : ℕ) (b : Board) → Fit b
    → (draining more limit count b ≡ draining_known more limit count b) × Fit (draining more limit count b).board
unfolding draining draining_known
draining_known_lem zero limit count b g = (refl, g)
draining_known_lem (suc more) limit count b g =
    goes_on_known limit count b _ _ g
    (λ c.
    let (same, fit) = draining_known_lem more limit (count + 1) (taking b c).board (call_good b g c) in
    (same ∙ ap (λ (o : Outcome). draining_known more limit (count + 1) o.board) (taking_known_lem b (fit_sound b g) c), fit))
    (next_event b)

module _ (b : Board) (limit : ℕ) (g : Fit b) where
  pub drained_known : drained b limit ≡ draining_known limit limit 0 b
  unfolding drained
  drained_known = rw (fit_sound b g) (draining_known_lem limit limit 0 b g).0

  pub drained_fit : Fit (drained b limit).board
  unfolding drained
  drained_fit = rw (fit_sound b g) (draining_known_lem limit limit 0 b g).1

-- ---- books

unfoldable pub showing_known : Board → ℕ → List ℤ → Shown
showing_known b site slice = shown (cause 7 (no_such_site b site) ∷ cause 16 (ltb (length slice) 64) ∷ []) slice (figures_of b site)

unfoldable pub showing_all_known : Board → List ℤ → Shown
showing_all_known b slice = shown (cause 16 (ltb (length slice) (64 * b.setup.n)) ∷ []) slice (figures_of_all b b.setup.n)

module _ (b : Board) (sound : is_sound b ≡ true) where
  pub showing_known_lem : (site : ℕ) (slice : List ℤ) → showing b site slice ≡ showing_known b site slice
  unfolding showing showing_known shown
  showing_known_lem site slice = rw sound

  pub showing_all_known_lem : (slice : List ℤ) → showing_all b slice ≡ showing_all_known b slice
  unfolding showing_all showing_all_known shown
  showing_all_known_lem slice = rw sound

-- ---- what a board looks like after calls and a drain

-- a look that has calls left, by what the first of them gives and what one accepted leads to
abbrev looks_on : (Board → Result) → Bool → Outcome → Result
looks_on after ok outcome = elim ok [
  | true ↦ after outcome.board
  | false ↦ answer outcome.answer
]

unfoldable pub looked_known : Board → List Call → ℕ → Result
looked_known b [] limit = left (view (draining_known limit limit 0 b).board)
looked_known b (c ∷ l) limit =
    let outcome = taking_known b c in
    looks_on (λ x. looked_known x l limit) (accepted outcome.answer) outcome

looks_on_known : (after known : Board → Result) (ok : Bool) (outcome : Outcome) → after outcome.board ≡ known outcome.board
    → looks_on after ok outcome ≡ looks_on known ok outcome
looks_on_known after known true outcome e = e
looks_on_known after known false outcome e = refl

pub looked_known_lem : (b : Board) (l : List Call) (limit : ℕ) → Fit b → looked b l limit ≡ looked_known b l limit
unfolding looked looked_known
looked_known_lem b [] limit g = ap (λ (d : Drained). left (view d.board)) (drained_known b limit g)
looked_known_lem b (c ∷ l) limit g =
    let known : Board → Result = λ x. looked_known x l limit in
    looks_on_known (λ x. looked x l limit) known (accepted (taking b c).answer) (taking b c) (looked_known_lem (taking b c).board l limit (call_good b g c))
    ∙ ap (λ (o : Outcome). looks_on known (accepted o.answer) o) (taking_known_lem b (fit_sound b g) c)

-- ---- what is printed for a run file

unfoldable pub printed_known : List ℕ → List ℕ
printed_known input =
    let setup = setup_of input in
    let calls = calls_of input in
    let start = starting setup.n setup.f setup.matrix in
    let refusal = refusal_of start.answer in
    let last = running_known start.board calls in
    let run = printed_of (map refusal_of (answers_known start.board calls)) (ended_on last (is_quiet last)) in
    cond (well_formed input) (cond (eqb refusal 0) run (refused_line refusal)) (refused_line 1)

pub printed_known_lem : (input : List ℕ) → printed input ≡ printed_known input
unfolding printed printed_from printed_run refusals printed_known
printed_known_lem input =
    let setup = setup_of input in
    let start = starting setup.n setup.f setup.matrix in
    elim (test (eqb (refusal_of start.answer) 0)) [
      | inl t ↦
          let fit = start_fit setup.n setup.f setup.matrix (start_accepted setup.n setup.f setup.matrix (eqb-true _ 0 t)) in
          rw (running_known_lem start.board (calls_of input) fit, answers_known_lem start.board (calls_of input) fit)
      | inr f ↦ rw f
    ]

-- An unfolding line with this name unfolds all of the above.
unfoldable pub known : Bool
unfolding taking_known running_known answers_known draining_known showing_known showing_all_known looked_known printed_known
known = true
