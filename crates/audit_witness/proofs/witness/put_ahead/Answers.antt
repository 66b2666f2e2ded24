-- `put_ahead` meets its contract.
-- Assumes nothing.
use Rattle.printer.proofs.Writing.{then_put}
use Rattle.audit_witness.specs.Witness.{ahead_words}
use Rattle.audit_witness.proofs.witness.put_ahead.Goals as goal

pub returns : goal.returns
unfolding ahead_words
returns c =
    then_put c.put_booked-a.ensures
    (then_put c.put_text-b.ensures
    (then_put c.put_stands-c.ensures c.put_text.ensures))
