-- `put_refused` meets its contract.
-- Assumes nothing.
use mathlib.Core.Path.{ap}
use Rattle.printer.specs.Output.{decimal}
use Rattle.printer.proofs.Writing.{then_put, put_as}
use Rattle.audit_witness.specs.Refusals.{refused_text}
use Rattle.audit_witness.proofs.refusals.put_refused.Goals as goal

pub returns : goal.returns
unfolding refused_text
returns c =
    then_put c.put_text-p.ensures
    (then_put (put_as (ap decimal c.from.ensures) c.put_number-q.ensures)
    (then_put c.put-s.ensures c.put_refusal.ensures))
