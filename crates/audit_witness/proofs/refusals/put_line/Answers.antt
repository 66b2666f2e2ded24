-- `put_line` meets its contract.
-- Assumes nothing.
use Rattle.printer.proofs.Writing.{then_put}
use Rattle.audit_witness.specs.Refusals.{line_words}
use Rattle.audit_witness.proofs.refusals.put_line.Goals as goal

pub returns : goal.returns
unfolding line_words
returns c =
    then_put c.put_file-p.ensures
    (then_put c.put_text-q.ensures c.put_number.ensures)
