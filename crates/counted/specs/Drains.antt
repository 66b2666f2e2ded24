-- A run file run, the board drained with a limit, and the books of all sites: the count, and the slice.
-- Rests on Answers, decoder, drain and machine.
use Rattle.std.specs.Prelude.{ℕ, cond, List, eqb, ℤ}
use Rattle.machine.specs.declared.Board.{Board}
use Rattle.steps.specs.declared.Call.{Call}
use Rattle.machine.specs.declared.Outcome.{Outcome}
use Rattle.machine.specs.Calls.{refusal_of, starting}
use Rattle.machine.specs.Runs.{running}
use Rattle.machine.specs.Figures.{showing_all}
use Rattle.drain.specs.Drain.{drained}
use Rattle.decoder.specs.RunFile.{setup_of, well_formed, calls_of}
use Rattle.counted.specs.Answers.{Counted, no_count, not_done}

-- the drain's count, and the books of all sites after it; no count where the slice is too short
unfoldable pub drained_run : Board → List Call → ℕ → List ℤ → Counted ℤ
drained_run b calls limit slice =
    let done = drained (running b calls) limit in
    let books = showing_all done.board slice in
    record { count = cond (eqb (refusal_of books.answer) 0) done.count no_count; slice = books.slice }

-- a refused start does nothing
unfoldable pub drained_from : Outcome → List Call → ℕ → List ℤ → Counted ℤ
drained_from o calls limit slice = cond (eqb (refusal_of o.answer) 0) (drained_run o.board calls limit slice) (not_done slice)

-- nor does a malformed file
unfoldable pub drained_file : List ℕ → ℕ → List ℤ → Counted ℤ
drained_file input limit slice =
    let setup = setup_of input in
    cond (well_formed input) (drained_from (starting setup.n setup.f setup.matrix) (calls_of input) limit slice) (not_done slice)
