-- `put_table` meets its contract.
-- Assumes nothing.
use Prim.Native.Nat.{◌-◌}
use Rattle.sets.specs.Sets.{capacity}
use Rattle.posting.specs.Conflicts.{no_posting}
use Rattle.image.specs.Layout.{rows_at, row_long}
use Rattle.image.specs.Image.{row_numbers}
use Rattle.image.proofs.Rows.{stored_none, stored_more, stored_end}
use borrow.Author.Rules.{rules}
use Rattle.image.proofs.writing.put_table.Goals as goal

pub loop-m-init : goal.loop-m-init
loop-m-init c = (search rules, stored_none row_numbers rows_at row_long c.args.table.rows no_posting _)

pub loop-m-preserved : goal.loop-m-preserved
loop-m-preserved c =
    let at = c.loop-m in
    let rows = c.args.table.rows in
    (search rules, stored_more row_numbers rows_at row_long rows no_posting _ at.out _ at.m at.invariant.1 c.put_row.ensures)

pub returns : goal.returns
returns c =
    let at = c.loop-m in
    let rows = c.args.table.rows in
    stored_end row_numbers rows_at row_long rows no_posting _ at.out at.m capacity at.invariant.1 at.invariant.0 c.loop-m-test.false
