-- `put_figure` meets its contract.
-- Assumes nothing.
use Prim.Native.Nat.{◌%◌}
use mathlib.Core.Path.{ap}
use mir.Facts.{to_z-of_z}
use borrow.Author.Tests.{eq-eqb, ne_eqb}
use Rattle.amounts.specs.Amounts.{signed, cents}
use Rattle.printer.proofs.Writing.{put_as}
use Rattle.audit_table.specs.Table.{figure_text}
use Rattle.audit_table.proofs.put_figure.Goals as goal

pub returns-then-row-eq1 : goal.returns-then-row-eq1
unfolding figure_text
returns-then-row-eq1 c = rw (eq-eqb (c.args.row % 4) 1 c.if-row-eq1.true) (put_as (ap signed (to_z-of_z c.ranges.x)) c.put_signed.ensures)

pub returns-else-row-eq1 : goal.returns-else-row-eq1
unfolding figure_text
returns-else-row-eq1 c = rw (ne_eqb (c.args.row % 4) 1 c.if-row-eq1.false) (put_as (ap cents (to_z-of_z c.ranges.x)) c.put_cents.ensures)
