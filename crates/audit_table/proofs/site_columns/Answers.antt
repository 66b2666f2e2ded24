-- `site_columns` meets its contract. The loop's invariant: the columns of the first p sites are put.
-- Assumes nothing.
use native.Mathlib.Numerals.{add-one}
use Rattle.printer.proofs.Writing.{nothing_put, then_put, put_as}
use Rattle.audit_table.specs.Table.{site_columns}
use Rattle.audit_table.proofs.site_columns.Goals as goal

pub loop-p-init : goal.loop-p-init
unfolding site_columns
loop-p-init c = nothing_put c.args.at c.args.out.now

pub loop-p-preserved : goal.loop-p-preserved
unfolding site_columns
loop-p-preserved c = put_as (rw add-one) (then_put c.loop-p.invariant c.site_column-place.ensures)
