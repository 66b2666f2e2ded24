-- What `statement` prints: once the board is quiet, the table of the figures of every site.
-- Rests on Table for the lines, on decoder for files, on printer for a refusal, on machine and drain.
use Rattle.std.specs.Prelude.{ℕ, cond, List, eqb}
use Rattle.machine.specs.declared.Board.{Board}
use Rattle.steps.specs.declared.Call.{Call}
use Rattle.machine.specs.declared.Outcome.{Outcome}
use Rattle.machine.specs.Calls.{refusal_of, starting}
use Rattle.machine.specs.Runs.{running}
use Rattle.machine.specs.Figures.{figures_of_all}
use Rattle.drain.specs.Drain.{drained, drain_limit}
use Rattle.decoder.specs.RunFile.{setup_of, well_formed, calls_of}
use Rattle.printer.specs.Output.{refused_line}
use Rattle.statements.specs.Table.{statement_text}

-- the statement of a board: its sites, their figures, and those that are down
unfoldable pub statement_of : Board → List ℕ
statement_of b = let n = b.setup.n in statement_text (figures_of_all b n) n b.down

-- calls from a board, then a drain, then the statement of the board that it hands back
unfoldable pub stated_run : Board → List Call → List ℕ
stated_run b calls = statement_of (drained (running b calls) drain_limit).board

-- what a start gives, with the calls that follow it: a refused start prints `F` and its number
unfoldable pub stated_from : Outcome → List Call → List ℕ
stated_from o calls =
    let refusal = refusal_of o.answer in
    cond (eqb refusal 0) (stated_run o.board calls) (refused_line refusal)

-- The whole output for an input: a malformed file prints `F 1`.
unfoldable pub stated : List ℕ → List ℕ
stated input =
    let setup = setup_of input in
    cond (well_formed input) (stated_from (starting setup.n setup.f setup.matrix) (calls_of input)) (refused_line 1)
