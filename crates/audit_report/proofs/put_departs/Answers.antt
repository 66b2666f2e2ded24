-- `put_departs` meets its contract.
-- Assumes nothing.
use Rattle.printer.proofs.Writing.{then_put}
use Rattle.audit_report.specs.Needs.{departs_words}
use Rattle.audit_report.proofs.put_departs.Goals as goal

pub returns : goal.returns
unfolding departs_words
returns c =
    then_put c.put_text-a.ensures (then_put c.put_witness-b.ensures (then_put c.put_read-c.ensures c.put_table.ensures))
