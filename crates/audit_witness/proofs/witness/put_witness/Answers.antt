-- `put_witness` meets its contract.
-- Assumes nothing.
use Rattle.printer.proofs.Writing.{then_put}
use Rattle.audit_witness.specs.Witness.{witness_words}
use Rattle.audit_witness.proofs.witness.put_witness.Goals as goal

pub returns : goal.returns
unfolding witness_words
returns c =
    then_put c.put_finding-a.ensures
    (then_put c.put_pair-b.ensures c.put_before.ensures)
