-- A changed board takes a call: of the board that a run file leaves one number is replaced, and it takes the call that ten bytes ask for (docs/FORMATS.md).
-- Rests on decoder for the file and an event, on counted for the answer of what is refused, on image for a board as a row of numbers, on machine and drain for the calls.
use Rattle.std.specs.Prelude.{ℕ, ◌+◌, Bool, cond, ◌&&◌, ◌||◌, List, [], ◌∷◌, ◌++◌, eqb, ltb, leb, ℤ, length, get_or, drop}
use Rattle.steps.specs.declared.Call.{Call}
use Rattle.machine.specs.declared.Board.{Board}
use Rattle.machine.specs.declared.Answer.{Answer}
use Rattle.machine.specs.declared.Outcome.{Outcome}
use Rattle.machine.specs.Calls.{answer_of, refusal_of, starting}
use Rattle.machine.specs.Runs.{taking, running}
use Rattle.machine.specs.Figures.{showing_all}
use Rattle.image.specs.Layout.{image_long}
use Rattle.image.specs.Image.{image_of, changed}
use Rattle.drain.specs.declared.Drained.{Drained}
use Rattle.drain.specs.Drain.{ending_of, drained}
use Rattle.decoder.specs.RunFile.{setup_of, code_of, event_ok, well_formed, call_of, calls_of}
use Rattle.by_value.specs.declared.Request.{Request}
use Rattle.by_value.specs.declared.Request.TheVariants.{Take, Drain, Books}
use Rattle.by_value.specs.declared.Reply.{Reply}
use Rattle.counted.specs.Answers.{no_count}

-- ---- what ten bytes ask for

-- code 0 is a drain, code 255 the books of all sites; the others are those of an event
unfoldable pub is_request : List ℕ → Bool
is_request event = eqb (length event) 10 && (eqb (code_of event) 0 || (eqb (code_of event) 255 || event_ok event))

unfoldable pub request_of : List ℕ → Request
request_of event = cond (eqb (code_of event) 0) Drain (cond (eqb (code_of event) 255) Books (Take (call_of event)))

-- ---- what the board answers: the number of a refusal, 0 of what is accepted; the board handed back; two values

-- the first value of an answer, if it has one
abbrev pub first_value : ℕ × List ℕ → ℕ
first_value told = get_or told.1 0 0

-- of an accepted offer the posting's number
abbrev pub reply_of_call : Outcome → Reply
reply_of_call o = let told = answer_of o.answer in record { number = told.0; board = o.board; first = first_value told; second = 0 }

-- 0 of a drain that ended quiet, 1 of one that was spent; and its count
abbrev pub reply_of_drain : Drained → Reply
reply_of_drain d = let told = ending_of d.ending in record { number = told.0; board = d.board; first = first_value told; second = d.count }

abbrev pub reply_of_books : Board → Answer → Reply
reply_of_books b answer = record { number = refusal_of answer; board = b; first = 0; second = 0 }

unfoldable pub reply_to : Board → Request → ℕ → List ℤ → Reply
reply_to b (Take call) limit figures = reply_of_call (taking b call)
reply_to b Drain limit figures = reply_of_drain (drained b limit)
reply_to b Books limit figures = reply_of_books b (showing_all b figures).answer

-- the figures are changed by the books alone
unfoldable pub figures_after : Board → Request → List ℤ → List ℤ
figures_after b (Take call) figures = figures
figures_after b Drain figures = figures
figures_after b Books figures = (showing_all b figures).slice

-- ---- what is filled in

-- the numbers of a board, and two more
abbrev pub filled_long : ℕ
filled_long = image_long + 2

-- beyond them the slice stays
abbrev pub filled : Board → ℕ → ℕ → List ℕ → List ℕ
filled b first second slice = image_of b ++ (first ∷ second ∷ []) ++ drop filled_long slice

-- the answer, and the two slices
pub record Called : Type 0 where
  pub number : ℕ
  pub figures : List ℤ
  pub board : List ℕ

-- no number, and both slices as they were
abbrev pub not_called : List ℤ → List ℕ → Called
not_called figures slice = record { number = no_count; figures = figures; board = slice }

unfoldable pub handed_back : Board → Request → ℕ → List ℤ → List ℕ → Called
handed_back b request limit figures slice =
    let r = reply_to b request limit figures in
    record { number = r.number; figures = figures_after b request figures; board = filled r.board r.first r.second slice }

-- ---- the changed board

-- the number at a place of its row replaced; past the last place none is
abbrev pub changed_at : Board → ℕ → ℕ → Board
changed_at b place value = cond (ltb place image_long) (changed b place value) b

-- a refused start calls nothing
unfoldable pub called_from : Outcome → List Call → ℕ → ℕ → Request → ℕ → List ℤ → List ℕ → Called
called_from o calls place value request limit figures slice =
    cond (eqb (refusal_of o.answer) 0) (handed_back (changed_at (running o.board calls) place value) request limit figures slice) (not_called figures slice)

-- the file is well formed, the bytes ask for something, and the slice has room
unfoldable pub may_call : List ℕ → List ℕ → ℕ → Bool
may_call input event room = well_formed input && (is_request event && leb filled_long room)

-- The whole: the file, the place and the value, the ten bytes, a drain's limit, the figures and the slice that the board is filled into.
unfoldable pub call_changed : List ℕ → ℕ → ℕ → List ℕ → ℕ → List ℤ → List ℕ → Called
call_changed input place value event limit figures slice =
    let setup = setup_of input in
    cond (may_call input event (length slice))
    (called_from (starting setup.n setup.f setup.matrix) (calls_of input) place value (request_of event) limit figures slice)
    (not_called figures slice)
