-- `put_rate` meets its contract.
-- Assumes nothing.
use mathlib.Core.Path.{ap}
use Rattle.printer.specs.Output.{decimal}
use Rattle.printer.proofs.Writing.{then_put, put_as}
use Rattle.audit_witness.specs.Witness.{rate_words}
use Rattle.audit_witness.proofs.witness.put_rate.Goals as goal

pub returns : goal.returns
unfolding rate_words
returns c =
    then_put c.put_text-p.ensures
    (then_put (put_as (ap decimal c.from.ensures) c.put_number-q.ensures)
    (then_put c.put_text-r.ensures
    (then_put c.put_number-s.ensures c.put_text.ensures)))
