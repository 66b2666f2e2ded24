-- `put_told` meets its contract.
-- Assumes nothing.
use Rattle.printer.proofs.Writing.{then_put}
use Rattle.audit_witness.proofs.witness.put_told.Goals as goal

pub returns : goal.returns
returns c = then_put c.put_posting-place.ensures c.put_fields.ensures
