-- Each way out of a call of a changed board gives what its definition says, from the results of the code's calls.
-- Rests on the specs, on runfile for a start. Assumes nothing.
use Prim.Native.Nat.{ℕ, ◌≤◌}
use mathlib.Core.Path.{◌≡◌, sym, ap, ◌∙◌}
use mathlib.Core.Logic.{◌≢◌}
use mathlib.Core.Bool.{true, false, ◌&&◌, ◌||◌}
use mathlib.Core.List.{List}
use lib.Dec.{eqb, leb}
use lib.IntN.{ℤ}
use lib.ListN.{length}
use borrow.Author.Tests.{ne_eqb, eqb-true, leb-true}
use Rattle.sets.proofs.Truth.{and_left, and_right}
use Rattle.site.specs.declared.Setup.{Setup}
use Rattle.steps.specs.CauseLists.{first_cause}
use Rattle.machine.specs.declared.Board.{Board}
use Rattle.machine.specs.declared.Answer.{Answer}
use Rattle.machine.specs.declared.Outcome.{Outcome}
use Rattle.machine.specs.Calls.{answer_of}
use Rattle.machine.specs.Boards.{fresh_board}
use Rattle.machine.specs.ByMask.{start_causes}
use Rattle.machine.specs.Runs.{running}
use Rattle.drain.specs.declared.Ending.{Ending}
use Rattle.drain.specs.declared.Drained.{Drained}
use Rattle.drain.specs.Drain.{ending_of}
use Rattle.decoder.specs.RunFile.{setup_of, code_of, event_ok, well_formed, calls_of}
use Rattle.runfile.proofs.Programs.{file_refused, file_taken}
use Rattle.by_value.specs.declared.Request.{Request}
use Rattle.by_value.specs.declared.Reply.{Reply}
use Rattle.counted.specs.Answers.{no_count}
use Rattle.by_value.specs.Changed.{is_request, request_of, first_value, reply_of_call, reply_of_drain, reply_to, figures_after, filled_long, filled, Called, handed_back, changed_at, called_from, may_call, call_changed}

-- an answer and two slices are those of a definition
abbrev pub Gives : ℕ → List ℤ → List ℕ → Called → Type 0
Gives number figures slice d = (number ≡ d.number) × ((figures ≡ d.figures) × (slice ≡ d.board))

-- ---- what a board answers

-- by the answer of a call, and by the ending of a drain
pub reply_call : {o p : Outcome} → o ≡ p → (answer : Answer) → o.answer ≡ answer
    → record { number = (answer_of answer).0; board = o.board; first = first_value (answer_of answer); second = 0 } ≡ reply_of_call p
reply_call {o} {p} e answer a = rw (sym a) (ap reply_of_call e)

pub reply_drain : {d p : Drained} → d ≡ p → (ending : Ending) → d.ending ≡ ending
    → record { number = (ending_of ending).0; board = d.board; first = first_value (ending_of ending); second = d.count } ≡ reply_of_drain p
reply_drain {d} {p} e ending a = rw (sym a) (ap reply_of_drain e)

-- filled in
pub filled_in : (b : Board) (request : Request) (limit : ℕ) (figures after : List ℤ) (slice left : List ℕ) (r : Reply) → r ≡ reply_to b request limit figures
    → after ≡ figures_after b request figures → left ≡ filled r.board r.first r.second slice
    → Gives r.number after left (handed_back b request limit figures slice)
unfolding handed_back
filled_in b request limit figures after slice left r er ef es =
    (ap (λ (x : Reply). x.number) er, (ef, es ∙ ap (λ (x : Reply). filled x.board x.first x.second slice) er))

-- ---- what a test has shown

module _ (input event : List ℕ) (room : ℕ) (may : may_call input event room ≡ true) where
  pub well : well_formed input ≡ true
  unfolding may_call
  well = and_left (well_formed input) (is_request event && leb filled_long room) may

  asked : (is_request event && leb filled_long room) ≡ true
  unfolding may_call
  asked = and_right (well_formed input) (is_request event && leb filled_long room) may

  pub has_room : filled_long ≤ room
  has_room = leb-true filled_long room (and_right (is_request event) (leb filled_long room) asked)

  pub ten_bytes : length event ≡ 10
  unfolding is_request
  ten_bytes =
      let code = eqb (code_of event) 0 || (eqb (code_of event) 255 || event_ok event) in
      eqb-true (length event) 10 (and_left (eqb (length event) 10) code (and_left (is_request event) (leb filled_long room) asked))

-- ---- the whole

module _ (input : List ℕ) (place value : ℕ) (event : List ℕ) (limit : ℕ) (figures : List ℤ) (slice : List ℕ) where
  pub none_called : may_call input event (length slice) ≡ false → Gives no_count figures slice (call_changed input place value event limit figures slice)
  unfolding call_changed
  none_called f = (rw f, (rw f, rw f))

  module _ (setup : Setup) (why : ℕ) (may : may_call input event (length slice) ≡ true) (es : setup ≡ setup_of input)
      (tested : why ≡ first_cause (start_causes setup.n setup.f setup.matrix)) where
    pub refused_none : why ≢ 0 → Gives no_count figures slice (call_changed input place value event limit figures slice)
    unfolding call_changed called_from
    refused_none n =
        let e = file_refused setup why tested input es n in
        (rw (may, sym e, ne_eqb why 0 n), (rw (may, sym e, ne_eqb why 0 n), rw (may, sym e, ne_eqb why 0 n)))

    pub started_calls : (b : Board) (request : Request) → why ≡ 0 → b ≡ changed_at (running (fresh_board setup) (calls_of input)) place value → request ≡ request_of event
        → handed_back b request limit figures slice ≡ call_changed input place value event limit figures slice
    unfolding call_changed called_from
    started_calls b request z eb er = rw (may, sym (file_taken setup why tested input es z), eb, er)
