-- `row_parts` meets its contract. The loop's invariant: the first rows are put.
-- Assumes nothing.
use native.Mathlib.Numerals.{add-one}
use Rattle.printer.proofs.Writing.{nothing_put, then_put, put_as}
use Rattle.audit_table.specs.Table.{row_parts}
use Rattle.audit_table.proofs.row_parts.Goals as goal

pub loop-row-init : goal.loop-row-init
unfolding row_parts
loop-row-init c = nothing_put c.args.at c.args.out.now

pub loop-row-preserved : goal.loop-row-preserved
unfolding row_parts
loop-row-preserved c = put_as (rw add-one) (then_put c.loop-row.invariant c.row_part-place.ensures)
