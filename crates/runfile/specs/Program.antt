-- What `board` prints for an input: the lines of the run that the file stands for, or the one line of a refusal.
-- Rests on machine, decoder and printer.
use Rattle.std.specs.Prelude.{ℕ, ◌≡◌, Bool, true, cond, List, map, eqb}
use Rattle.books.specs.Books.{tabulate}
use Rattle.site.specs.Sites.{sites}
use Rattle.site.specs.declared.Setup.{Setup}
use Rattle.machine.specs.declared.Board.{Board}
use Rattle.steps.specs.declared.Call.{Call}
use Rattle.machine.specs.declared.Outcome.{Outcome}
use Rattle.machine.specs.Boards.{site_at}
use Rattle.machine.specs.Soundness.{is_sound}
use Rattle.machine.specs.Calls.{refusal_of, starting}
use Rattle.machine.specs.Runs.{running, answers, is_quiet}
use Rattle.printer.specs.declared.Ended.{Ended}
use Rattle.decoder.specs.RunFile.{setup_of, well_formed, calls_of}
use Rattle.printer.specs.Output.{refused_line, printed_of}

-- what is shown of a board: its sites' records, which of them are down, the log, and whether it is quiet
unfoldable pub ended_on : Board → Bool → Ended
ended_on b quiet =
    record {
      n = b.setup.n;
      down = b.down;
      records = record { sites = tabulate sites (λ p. (site_at b p).delivered) };
      log = b.log;
      quiet = quiet;
    }

-- every board that calls reach from it is sound; of an accepted start that is a theorem
abbrev pub StaysSound : Board → Type 0
StaysSound b = (calls : List Call) → is_sound (running b calls) ≡ true

-- the refusal numbers of a run's answers, in order; 0 of what is accepted
unfoldable pub refusals : Board → List Call → List ℕ
refusals b calls = map refusal_of (answers b calls)

-- a run of calls from a board, printed
unfoldable pub printed_run : Board → List Call → List ℕ
printed_run b calls = let last = running b calls in printed_of (refusals b calls) (ended_on last (is_quiet last))

-- what a start gives, with the calls that follow it: a refused start prints `F` and its number
unfoldable pub printed_from : Outcome → List Call → List ℕ
printed_from o calls =
    let refusal = refusal_of o.answer in
    cond (eqb refusal 0) (printed_run o.board calls) (refused_line refusal)

-- the whole output: a malformed file prints `F 1`, tested before any event
unfoldable pub printed : List ℕ → List ℕ
printed input =
    let setup = setup_of input in
    cond (well_formed input) (printed_from (starting setup.n setup.f setup.matrix) (calls_of input)) (refused_line 1)
