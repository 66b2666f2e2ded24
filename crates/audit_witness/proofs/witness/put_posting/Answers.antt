-- `put_posting` meets its contract.
-- Assumes nothing.
use Rattle.printer.proofs.Writing.{then_put}
use Rattle.audit_witness.specs.Witness.{posting_words}
use Rattle.audit_witness.proofs.witness.put_posting.Goals as goal

pub returns : goal.returns
unfolding posting_words
returns c =
    then_put c.put_kind-p.ensures
    (then_put c.put_text-q.ensures c.put_number.ensures)
