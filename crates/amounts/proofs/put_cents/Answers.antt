-- `put_cents` meets its contract.
-- Assumes nothing.
use mathlib.Core.Path.{refl}
use mir.Facts.{to_z-of_z}
use Rattle.printer.proofs.Writing.{then_put, put_as}
use Rattle.amounts.specs.Amounts.{cents}
use Rattle.amounts.proofs.put_cents.Goals as goal

pub returns : goal.returns
unfolding cents
returns c =
    put_as (rw (c.unsigned_abs.ensures.value, to_z-of_z c.ranges.x) refl) (then_put c.put_sign-p.ensures c.put_units.ensures)
