-- `put_trade` meets its contract.
-- Assumes nothing.
use mathlib.Core.Path.{ap}
use Rattle.printer.specs.Output.{decimal}
use Rattle.printer.proofs.Writing.{then_put, put_as}
use Rattle.audit_witness.specs.Witness.{trade_words}
use Rattle.audit_witness.proofs.witness.put_trade.Goals as goal

pub returns : goal.returns
unfolding trade_words
returns c =
    then_put c.put_text-p.ensures
    (then_put (put_as (ap decimal c.from.ensures) c.put_number-q.ensures)
    (then_put c.put_text-r.ensures
    (then_put (put_as (ap decimal c.from-2.ensures) c.put_number-s.ensures)
    (then_put c.put_text-t.ensures
    (then_put c.put_units-u.ensures c.put_text.ensures)))))
