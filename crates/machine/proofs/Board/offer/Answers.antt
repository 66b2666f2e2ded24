-- `offer` meets its contract.
-- Assumes nothing.
use Rattle.machine.specs.declared.Answer.TheVariants.{Offered}
use Rattle.machine.specs.Runs.{taking}
use Rattle.machine.specs.Calls.{offering}
use Rattle.machine.proofs.Causes.{unsound_refused}
use Rattle.machine.proofs.Answered.{responded, offer_by}
use Rattle.machine.proofs.Board.offer.Goals as goal

pub returns : goal.returns
unfolding offering taking
returns c =
    let g = c.args in
    let shown =
    responded g.self (offering g.self g.site g.kind g.account g.other g.amount g.cut) c.respond.result (Offered g.self.table.count) (λ f. unsound_refused g.self f _ _) (offer_by g.self g.site g.kind g.account g.other g.amount g.cut)
    c.respond.ensures.unsound c.respond.ensures.sound in
    record { value = shown.0; answer_value = shown.1 }
