-- A run file run, and the refusal number of each answer: the count, and the slice.
-- Rests on Answers, decoder, runfile and machine.
use Rattle.std.specs.Prelude.{ℕ, cond, List, ◌++◌, eqb, ltb, length, drop}
use Rattle.machine.specs.declared.Outcome.{Outcome}
use Rattle.machine.specs.Calls.{refusal_of, starting}
use Rattle.decoder.specs.RunFile.{setup_of, well_formed, event_count, calls_of}
use Rattle.runfile.specs.Program.{refusals}
use Rattle.counted.specs.Answers.{Counted, not_done}

-- of a board that a start gives: the number of each event's answer, 0 of an accepted one; beyond them the slice stays. Not where they have no room
unfoldable pub numbered_from : Outcome → List ℕ → List ℕ → Counted ℕ
numbered_from o input slice =
    let count = event_count input in
    let numbers = refusals o.board (calls_of input) in
    cond (eqb (refusal_of o.answer) 0) (cond (ltb (length slice) count) (not_done slice) (record { count = count; slice = numbers ++ drop count slice })) (not_done slice)

-- nor of a malformed file
unfoldable pub numbered_file : List ℕ → List ℕ → Counted ℕ
numbered_file input slice =
    let setup = setup_of input in
    cond (well_formed input) (numbered_from (starting setup.n setup.f setup.matrix) input slice) (not_done slice)
