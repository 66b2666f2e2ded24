-- `put_booked` meets its contract.
-- Assumes nothing.
use Rattle.printer.proofs.Writing.{then_put}
use Rattle.audit_witness.specs.Witness.{booked_words}
use Rattle.audit_witness.proofs.witness.put_booked.Goals as goal

pub returns : goal.returns
unfolding booked_words
returns c =
    then_put c.put_text-a.ensures
    (then_put c.put_number-b.ensures
    (then_put c.put_text-c.ensures c.put_stands.ensures))
