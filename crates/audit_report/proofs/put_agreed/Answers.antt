-- `put_agreed` meets its contract.
-- Assumes nothing.
use mathlib.Core.Path.{ap}
use mathlib.Core.Bool.{Bool, cond}
use Rattle.printer.proofs.Writing.{then_put, put_as}
use Rattle.amounts.specs.Amounts.{text}
use Rattle.audit_report.specs.Needs.{agreed_words}
use Rattle.audit_report.proofs.put_agreed.Goals as goal

pub returns : goal.returns
unfolding agreed_words
returns c =
    then_put (put_as (ap (λ (so : Bool). cond so (text "SAME BOOKS\n") (text "AGREE SO FAR\n")) c.all_hold-same.ensures) c.put_verdict-a.ensures)
    (then_put c.put_read-b.ensures (then_put c.put_lacks-c.ensures (then_put c.put_text-d.ensures c.put_table.ensures)))
