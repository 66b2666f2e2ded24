-- `put_already` meets its contract.
-- Assumes nothing.
use Rattle.printer.proofs.Writing.{then_put}
use Rattle.audit_witness.proofs.refusals.put_already.Goals as goal

pub returns : goal.returns
returns c =
    then_put c.put_text-p.ensures
    (then_put c.put_number-q.ensures c.put_text.ensures)
