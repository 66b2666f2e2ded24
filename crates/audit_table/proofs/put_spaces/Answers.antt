-- `put_spaces` meets its contract.
-- Assumes nothing.
use Rattle.printer.proofs.Writing.{nothing_put, then_put, put_as}
use Rattle.audit_table.proofs.Columns.{spaces_more}
use Rattle.audit_table.proofs.put_spaces.Goals as goal

pub loop-init : goal.loop-init
loop-init c = nothing_put c.args.at c.args.out.now

pub loop-preserved : goal.loop-preserved
loop-preserved c = put_as (spaces_more c.loop.counter) (then_put c.loop.invariant c.put-place.ensures)
