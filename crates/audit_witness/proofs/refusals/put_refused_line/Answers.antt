-- `put_refused_line` meets its contract.
-- Assumes nothing.
use Rattle.printer.proofs.Writing.{then_put}
use Rattle.audit_witness.proofs.refusals.put_refused_line.Goals as goal

pub returns : goal.returns
returns c =
    then_put c.put_text-p.ensures
    (then_put c.put_line-q.ensures
    (then_put c.put_text-s.ensures c.put_reason.ensures))
