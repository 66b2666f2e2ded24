-- What comes of a run file, whatever is made of its run: a refusal by its number, or what its calls do from the board of its start.
-- Rests on decoder for the file, on machine for a start.
use Rattle.std.specs.Prelude.{ℕ, cond, List, eqb}
use Rattle.steps.specs.declared.Call.{Call}
use Rattle.machine.specs.declared.Board.{Board}
use Rattle.machine.specs.declared.Outcome.{Outcome}
use Rattle.machine.specs.Calls.{refusal_of, starting}
use Rattle.decoder.specs.RunFile.{setup_of, well_formed, calls_of}

-- a refused start is told by its number; from the board of another the calls are run
unfoldable pub of_start : {A : Type 0} → (ℕ → A) → (Board → List Call → A) → List Call → Outcome → A
of_start refused run calls o = let refusal = refusal_of o.answer in cond (eqb refusal 0) (run o.board calls) (refused refusal)

-- a malformed file is refused by 1, tested before any event
unfoldable pub of_file : {A : Type 0} → (ℕ → A) → (Board → List Call → A) → List ℕ → A
of_file refused run input =
    let setup = setup_of input in
    cond (well_formed input) (of_start refused run (calls_of input) (starting setup.n setup.f setup.matrix)) (refused 1)
