-- `order` meets its contract.
-- Assumes nothing.
use Rattle.machine.specs.declared.Answer.TheVariants.{Done}
use Rattle.machine.specs.Runs.{taking}
use Rattle.machine.specs.Calls.{ordering}
use Rattle.machine.proofs.Causes.{unsound_refused}
use Rattle.machine.proofs.Answered.{responded, order_by}
use Rattle.machine.proofs.Board.order.Goals as goal

pub returns : goal.returns
unfolding ordering taking
returns c =
    let g = c.args in
    let shown =
    responded g.self (ordering g.self g.m) c.respond.result (Done) (λ f. unsound_refused g.self f _ _) (order_by g.self g.m)
    c.respond.ensures.unsound c.respond.ensures.sound in
    record { value = shown.0; answer_value = shown.1 }
