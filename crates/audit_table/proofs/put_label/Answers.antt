-- `put_label` meets its contract.
-- Assumes nothing.
use mathlib.Core.Path.{ap, ◌∙◌}
use native.Mathlib.Omega.{arith}
use Rattle.printer.proofs.Writing.{then_put, put_as}
use Rattle.audit_table.specs.Table.{spaces, label}
use Rattle.audit_table.proofs.Columns.{after_counted, counted_gap}
use Rattle.audit_table.proofs.put_label.Goals as goal

pub returns : goal.returns
unfolding label
returns c =
    let counted = c.row_name-n.ensures in
    let name = after_counted counted c.args.out.now c.row_name-place.ensures in
    then_put name (put_as (ap spaces (c.gap.ensures ∙ counted_gap counted 20 (omega arith))) c.put_spaces.ensures)
