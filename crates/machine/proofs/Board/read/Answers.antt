-- `read` meets its contract.
-- Assumes nothing.
use Rattle.machine.specs.declared.Answer.TheVariants.{Done}
use Rattle.machine.specs.Runs.{taking}
use Rattle.machine.specs.Calls.{reading}
use Rattle.machine.proofs.Causes.{unsound_refused}
use Rattle.machine.proofs.Answered.{responded, read_by}
use Rattle.machine.proofs.Board.read.Goals as goal

pub returns : goal.returns
unfolding reading taking
returns c =
    let g = c.args in
    let shown =
    responded g.self (reading g.self g.site g.cut) c.respond.result (Done) (λ f. unsound_refused g.self f _ _) (read_by g.self g.site g.cut)
    c.respond.ensures.unsound c.respond.ensures.sound in
    record { value = shown.0; answer_value = shown.1 }
