-- `put_units` meets its contract.
-- Assumes nothing.
use Rattle.printer.proofs.Writing.{then_put}
use Rattle.amounts.specs.Amounts.{units}
use Rattle.amounts.proofs.put_units.Goals as goal

pub returns : goal.returns
unfolding units
returns c =
    rw (← c.last_digit.ensures, ← c.last_digit-2.ensures) (then_put c.put_number-p.ensures (then_put c.put-q.ensures (then_put c.put-r.ensures c.put.ensures)))
