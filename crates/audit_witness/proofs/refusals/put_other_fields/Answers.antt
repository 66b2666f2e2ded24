-- `put_other_fields` meets its contract.
-- Assumes nothing.
use Rattle.printer.proofs.Writing.{then_put}
use Rattle.audit_witness.proofs.refusals.put_other_fields.Goals as goal

pub returns : goal.returns
returns c =
    then_put c.put_text-p.ensures
    (then_put c.put_line-q.ensures c.put_text.ensures)
