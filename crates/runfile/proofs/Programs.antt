-- Laws of the whole program: how a file begins, what is printed of one that is refused and of a run, and that a run's boards are sound.
-- Rests on Begins and Program, on machine and invariants for boards that a start reaches. Assumes nothing.
use Prim.Native.Nat.{ℕ, ◌-◌, ◌%◌, ◌≤◌}
use mathlib.Core.Path.{◌≡◌, refl, sym, ap, ◌∙◌}
use mathlib.Core.Logic.{inl, inr, ◌≢◌}
use mathlib.Core.Bool.{Bool, true, false, not, cond, ◌&&◌}
use mathlib.Core.List.{List, [], ◌∷◌}
use native.Mathlib.Omega.{arith}
use lib.Dec.{eqb, leb}
use lib.ListN.{length}
use borrow.Author.Tests.{ne_eqb, leb-true}
use Rattle.sets.proofs.Truth.{test, never, and_left, and_right}
use Rattle.posting.specs.Kinds.{symmetric, has_fixed_pairs}
use Rattle.site.specs.declared.Setup.{Setup}
use Rattle.machine.specs.declared.Board.{Board}
use Rattle.steps.specs.declared.Call.{Call}
use Rattle.machine.specs.declared.Outcome.{Outcome}
use Rattle.machine.specs.declared.Answer.TheVariants.{Done}
use Rattle.machine.specs.Boards.{fresh_board, blank_board}
use Rattle.machine.specs.Soundness.{sites_ok, crashes_ok}
use Rattle.machine.specs.Calls.{refusal_of, judged, starting}
use Rattle.steps.specs.Causes.{cause}
use Rattle.machine.specs.Runs.{accepted, running, is_quiet}
use Rattle.invariants.proofs.Reached.{GoodIf}
use Rattle.invariants.proofs.Start.{reached_good, reached_sound}
use Rattle.printer.specs.declared.Ended.{Ended}
use Rattle.std.specs.Prelude.{Option}
use Rattle.decoder.specs.RunFile.{setup_of, header_ok, length_ok, events_ok, event_count, event_limit, well_formed, calls_of}
use Rattle.printer.specs.Output.{refused_line, printed_of}
use Rattle.printer.proofs.Writing.{Prints}
use Rattle.steps.specs.CauseLists.{first_cause}
use Rattle.machine.specs.ByMask.{start_causes, refusing, taken}
use Rattle.machine.proofs.Causes.{start_refused, start_done}
use Rattle.runfile.specs.Begins.{Begun, begun_by}
use Rattle.runfile.specs.Files.{of_start, of_file}
use Rattle.runfile.specs.Program.{StaysSound, ended_on, refusals, printed_run, printed_from, printed}

-- a well-formed file has no more events than the limit
pub few_events : (input : List ℕ) → well_formed input ≡ true → event_count input ≤ event_limit
unfolding well_formed length_ok
few_events input t =
    let n = length input in
    let l = length_ok n in
    let e = eqb ((n - 9) % 10) 0 in
    let m = leb (event_count input) event_limit in
    leb-true (event_count input) event_limit (and_right e m (and_right (leb 9 n) (e && m) (and_left l (events_ok input) (and_right (header_ok input) (l && events_ok input) t))))

-- a run, printed
pub run_printed : (b last : Board) (calls : List Call) (numbers : List ℕ) (quiet : Bool) (ended : Ended)
    → last ≡ running b calls → numbers ≡ refusals b calls → quiet ≡ is_quiet last → ended ≡ ended_on last quiet
    → printed_of numbers ended ≡ printed_run b calls
unfolding printed_run
run_printed b last calls numbers quiet ended el en eq ee = rw (ee, eq, el, en)

-- a text printed, by another name
pub printed_as : {a b t : List ℕ} {x : Option ℕ} (s : List ℕ) → a ≡ b → Prints a s x t → Prints b s x t
printed_as s e (h, (k, l)) = (rw e at h, (rw e at k, rw e at l))

-- ---- a start

abbrev pub start_with : Setup → Outcome
start_with setup = starting setup.n setup.f setup.matrix

-- no refusal of a start has the number 0
pub start_accepted : (n f matrix : ℕ) → refusal_of (starting n f matrix).answer ≡ 0 → accepted (starting n f matrix).answer ≡ true
unfolding starting judged
start_accepted n f matrix e =
    let setup : Setup = record { n = n; f = f; matrix = matrix } in
    go (not (sites_ok setup)) (not (crashes_ok setup)) (not (symmetric matrix)) (not (has_fixed_pairs matrix)) blank_board (fresh_board setup) e
  where
    go : (i j k l : Bool) (back board : Board)
        → refusal_of (judged (cause 2 i ∷ cause 3 j ∷ cause 4 k ∷ cause 5 l ∷ []) back (record { board = board; answer = Done })).answer ≡ 0
        → accepted (judged (cause 2 i ∷ cause 3 j ∷ cause 4 k ∷ cause 5 l ∷ []) back (record { board = board; answer = Done })).answer ≡ true
    go true j k l back board e = absurd (omega arith)
    go false true k l back board e = absurd (omega arith)
    go false false true l back board e = absurd (omega arith)
    go false false false true back board e = absurd (omega arith)
    go false false false false back board e = refl

-- the number of a start's refusal, from its tests: what the start gives, and that every board reached from it is sound
module _ (setup : Setup) (why : ℕ) (tested : why ≡ first_cause (start_causes setup.n setup.f setup.matrix)) where
  start_taken : why ≡ 0 → taken (fresh_board setup) ≡ start_with setup
  start_taken z = start_done setup.n setup.f setup.matrix why (fresh_board setup) tested z refl

  start_board : why ≡ 0 → fresh_board setup ≡ (start_with setup).board
  start_board z = ap (λ (o : Outcome). o.board) (start_taken z)

  start_answer : why ≡ 0 → accepted (start_with setup).answer ≡ true
  start_answer z = start_accepted setup.n setup.f setup.matrix (ap (λ (o : Outcome). refusal_of o.answer) (sym (start_taken z)))

  pub start_stays : why ≡ 0 → StaysSound (fresh_board setup)
  start_stays z calls = rw (start_board z) (reached_sound setup.n setup.f setup.matrix (start_answer z) calls)

  start_good : why ≡ 0 → GoodIf false (fresh_board setup)
  unfolding running
  start_good z =
      let g = reached_good setup.n setup.f setup.matrix (start_answer z) [] in
      rw (start_board z) (record { shape = g.shape; sound = g.sound; blank = λ f. absurd (never f refl) })

  -- of the setup of a file
  module _ (input : List ℕ) (es : setup ≡ setup_of input) where
    pub file_refused : why ≢ 0 → refusing blank_board why ≡ start_with (setup_of input)
    file_refused d = start_refused setup.n setup.f setup.matrix why blank_board tested d refl ∙ ap start_with es

    pub file_taken : why ≡ 0 → taken (fresh_board setup) ≡ start_with (setup_of input)
    file_taken z = start_taken z ∙ ap start_with es

-- ---- how a file begins

pub begun_malformed : (input : List ℕ) (setup : Setup) → setup ≡ setup_of input → well_formed input ≡ false → record { setup = setup; why = 1 } ≡ begun_by input
unfolding begun_by
begun_malformed input setup es f = rw (f, es)

pub begun_tested :
    (input : List ℕ) (setup : Setup) (why : ℕ) → setup ≡ setup_of input → well_formed input ≡ true
    → why ≡ first_cause (start_causes setup.n setup.f setup.matrix) → record { setup = setup; why = why } ≡ begun_by input
unfolding begun_by
begun_tested input setup why es t tested = rw (t, tested, es)

module _ (input : List ℕ) (begun : Begun) (eb : begun ≡ begun_by input) where
  begun_setup : begun.setup ≡ setup_of input
  unfolding begun_by
  begun_setup = ap (λ (b : Begun). b.setup) eb

  begun_why : begun.why ≡ cond (well_formed input) (first_cause (start_causes begun.setup.n begun.setup.f begun.setup.matrix)) 1
  unfolding begun_by
  begun_why = rw begun_setup (ap (λ (b : Begun). b.why) eb)

  begun_start : well_formed input ≡ true → begun.why ≡ first_cause (start_causes begun.setup.n begun.setup.f begun.setup.matrix)
  begun_start t = rw t at begun_why

  begun_one : well_formed input ≡ false → begun.why ≡ 1
  begun_one f = rw f at begun_why

  begun_well : begun.why ≡ 0 → well_formed input ≡ true
  begun_well z = elim (test (well_formed input)) [
    | inl t ↦ t
    | inr f ↦ absurd (omega (arith, begun_one f, z))
  ]

  -- what the functions that run a file ask
  pub begun_runs : begun.why ≡ 0 → StaysSound (fresh_board begun.setup) × GoodIf false (fresh_board begun.setup) × (event_count input ≤ event_limit)
  begun_runs z =
      let tested = begun_start (begun_well z) in
      (start_stays begun.setup begun.why tested z, start_good begun.setup begun.why tested z, few_events input (begun_well z))

  -- what is defined of a file by its start: of one that is refused, and of one that runs
  module _ {A : Type 0} (from : Outcome → A) (malformed : A) where
    pub begun_refused : (given : A) → begun.why ≢ 0 → (begun.why ≡ 1 → given ≡ malformed) → given ≡ from (refusing blank_board begun.why)
        → given ≡ cond (well_formed input) (from (start_with (setup_of input))) malformed
    begun_refused given d em es = elim (test (well_formed input)) [
      | inl t ↦ rw t (es ∙ ap from (file_refused begun.setup begun.why (begun_start t) input begun_setup d))
      | inr f ↦ rw f (em (begun_one f))
    ]

    pub begun_taken : begun.why ≡ 0 → from (taken (fresh_board begun.setup)) ≡ cond (well_formed input) (from (start_with (setup_of input))) malformed
    begun_taken z =
        let t = begun_well z in
        rw t (ap from (file_taken begun.setup begun.why (begun_start t) input begun_setup z))

  -- the same of what comes of a run file, whatever is made of its run
  module _ {A : Type 0} (refused : ℕ → A) (run : Board → List Call → A) where
    pub file_refuses : begun.why ≢ 0 → of_file refused run input ≡ refused begun.why
    unfolding of_file of_start
    file_refuses d = elim (test (well_formed input)) [
      | inl t ↦
          let start = file_refused begun.setup begun.why (begun_start t) input begun_setup d in
          rw (t, sym start, ne_eqb begun.why 0 d) refl
      | inr f ↦ rw f (ap refused (sym (begun_one f)))
    ]

    pub file_runs : begun.why ≡ 0 → of_file refused run input ≡ run (fresh_board begun.setup) (calls_of input)
    unfolding of_file of_start
    file_runs z =
        let t = begun_well z in
        rw (t, sym (file_taken begun.setup begun.why (begun_start t) input begun_setup z)) refl

  pub refused_printed : begun.why ≢ 0 → refused_line begun.why ≡ printed input
  unfolding printed printed_from
  refused_printed d =
      begun_refused (λ o. printed_from o (calls_of input)) (refused_line 1) (refused_line begun.why) d (ap refused_line) (rw (ne_eqb begun.why 0 d))

  pub taken_printed : begun.why ≡ 0 → printed_run (fresh_board begun.setup) (calls_of input) ≡ printed input
  unfolding printed printed_from
  taken_printed z = begun_taken (λ o. printed_from o (calls_of input)) (refused_line 1) z
