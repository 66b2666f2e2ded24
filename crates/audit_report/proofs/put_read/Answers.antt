-- `put_read` meets its contract.
-- Assumes nothing.
use mathlib.Core.Path.{ap}
use Rattle.printer.specs.Output.{decimal}
use Rattle.printer.proofs.Writing.{then_put, put_as}
use Rattle.audit_report.specs.Report.{read_words}
use Rattle.audit_report.proofs.put_read.Goals as goal

pub returns : goal.returns
unfolding read_words
returns c =
    then_put c.put_text-a.ensures
    (then_put c.put_number-b.ensures
    (then_put c.put_text-c.ensures
    (then_put c.put_number-d.ensures
    (then_put c.put_text-e.ensures
    (then_put (put_as (ap decimal c.count_postings.ensures) c.put_number-f.ensures) c.put_text.ensures)))))
