-- `put_signed` meets its contract.
-- Assumes nothing.
use mir.Facts.{to_z-of_z}
use Rattle.printer.proofs.Writing.{then_put, put_as}
use Rattle.amounts.proofs.Figures.{sign_first}
use Rattle.amounts.proofs.put_signed.Goals as goal

pub returns : goal.returns
returns c =
    put_as (rw (c.unsigned_abs.ensures.value, to_z-of_z c.ranges.x) (sign_first c.args.x)) (then_put c.put_sign-p.ensures c.put_number.ensures)
