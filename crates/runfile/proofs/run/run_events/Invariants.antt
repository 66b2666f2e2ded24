-- `run_events` meets its contract. The loop keeps `Ran`.
-- Assumes nothing.
use Rattle.machine.specs.View.{view}
use Rattle.runfile.proofs.Runs.{Ran}
use Rattle.runfile.proofs.run.run_events.Given as goal

abbrev pub invariant-loop-k : goal.invariant-loop-k
invariant-loop-k l = Ran l.setup (view l.setup l.initial.board) l.input l.initial.numbers l.first l.last l.k l.board l.numbers
