-- `receive` meets its contract.
-- Assumes nothing.
use Rattle.machine.specs.declared.Answer.TheVariants.{Done}
use Rattle.machine.specs.Runs.{taking}
use Rattle.machine.specs.Calls.{receiving}
use Rattle.machine.proofs.Causes.{unsound_refused}
use Rattle.machine.proofs.Answered.{responded, receive_by}
use Rattle.machine.proofs.Board.receive.Goals as goal

pub returns : goal.returns
unfolding receiving taking
returns c =
    let g = c.args in
    let shown =
    responded g.self (receiving g.self g.form g.m g.from g.to g.cut) c.respond.result (Done) (λ f. unsound_refused g.self f _ _) (receive_by g.self g.form g.m g.from g.to g.cut)
    c.respond.ensures.unsound c.respond.ensures.sound in
    record { value = shown.0; answer_value = shown.1 }
