-- `crash` meets its contract.
-- Assumes nothing.
use Rattle.machine.specs.declared.Answer.TheVariants.{Done}
use Rattle.machine.specs.Runs.{taking}
use Rattle.machine.specs.Calls.{crashing}
use Rattle.machine.proofs.Causes.{unsound_refused}
use Rattle.machine.proofs.Answered.{responded, crash_by}
use Rattle.machine.proofs.Board.crash.Goals as goal

pub returns : goal.returns
unfolding crashing taking
returns c =
    let g = c.args in
    let shown =
    responded g.self (crashing g.self g.site) c.respond.result (Done) (λ f. unsound_refused g.self f _ _) (crash_by g.self g.site)
    c.respond.ensures.unsound c.respond.ensures.sound in
    record { value = shown.0; answer_value = shown.1 }
