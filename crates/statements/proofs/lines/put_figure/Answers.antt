-- `put_figure` meets its contract.
-- Assumes nothing.
use mathlib.Core.Path.{ap}
use mir.Facts.{to_z-of_z}
use Rattle.amounts.specs.Amounts.{signed}
use Rattle.printer.proofs.Writing.{then_put, put_as}
use Rattle.statements.proofs.lines.put_figure.Goals as goal

pub returns : goal.returns
returns c = then_put c.put_text-p.ensures (put_as (ap signed (to_z-of_z c.ranges.x)) c.put_signed.ensures)
