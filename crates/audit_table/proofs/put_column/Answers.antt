-- `put_column` meets its contract.
-- Assumes nothing.
use mathlib.Core.Path.{ap, ◌∙◌}
use native.Mathlib.Omega.{arith}
use mir.Facts.{to_z-of_z}
use Rattle.printer.proofs.Writing.{then_put, put_as}
use Rattle.audit_table.specs.Table.{spaces, figure_text, column}
use Rattle.audit_table.proofs.Columns.{after_counted, counted_gap}
use Rattle.audit_table.proofs.put_column.Goals as goal

pub returns : goal.returns
unfolding column
returns c =
    let x = ap (figure_text c.args.row) (to_z-of_z c.ranges.x) in
    let counted = put_as x c.put_figure-n.ensures in
    let gap = after_counted counted c.args.out.now c.put_spaces-place.ensures in
    then_put (put_as (ap spaces (c.gap.ensures ∙ counted_gap counted 16 (omega arith))) gap) (put_as x c.put_figure.ensures)
