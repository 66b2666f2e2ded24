-- `start` meets its contract.
-- Assumes nothing.
use mathlib.Core.Path.{refl}
use Rattle.steps.proofs.Numbers.{is_refusal}
use Rattle.machine.proofs.Causes.{start_refused, start_done}
use Rattle.machine.proofs.Answered.{with_answer}
use Rattle.whole_board.proofs.opening.start.Goals as goal

pub returns-in-Ok : goal.returns-in-Ok
returns-in-Ok c =
    let shown = with_answer (start_done c.args.n c.args.f c.args.matrix _ _ c.in-Ok.ensures refl c.fresh.ensures) in
    record { value = shown.0; answer_value = shown.1 }

pub returns-in-Err : goal.returns-in-Err
returns-in-Err c =
    let shown = with_answer (start_refused c.args.n c.args.f c.args.matrix _ _ c.in-Err.ensures (is_refusal c.in-Err.refusal) c.fresh-in-Err.ensures) in
    rw c.number.ensures (record { value = shown.0; answer_value = shown.1 })
