-- `put_without` meets its contract.
-- Assumes nothing.
use Rattle.printer.proofs.Writing.{then_put}
use Rattle.audit_witness.specs.Witness.{without_words}
use Rattle.audit_witness.proofs.witness.put_without.Goals as goal

pub returns : goal.returns
unfolding without_words
returns c =
    then_put c.put_booked-a.ensures
    (then_put c.put_text-b.ensures
    (then_put c.put_posting-c.ensures c.put_text.ensures))
