-- `table_of` meets its contract.
-- Assumes nothing.
use Prim.Native.Nat.{◌-◌}
use mathlib.Core.List.{List}
use lib.ListN.{get_or}
use mathlib.Core.Path.{ap}
use Rattle.sets.specs.Sets.{capacity}
use Rattle.posting.specs.declared.Posting.{Posting}
use Rattle.posting.specs.Conflicts.{no_posting}
use Rattle.arrays.specs.Layout.{count_at}
use Rattle.views.specs.Views.{table_of}
use Rattle.views.proofs.Filled.{filled_begin, filled_step, filled_all}
use borrow.Author.Rules.{rules}
use Rattle.views.proofs.table_of.Goals as goal

pub loop-m-init : goal.loop-m-init
loop-m-init c = (search rules, filled_begin capacity _ no_posting _)

pub loop-m-preserved : goal.loop-m-preserved
loop-m-preserved c =
    let at = c.loop-m in
    (search rules, filled_step capacity _ no_posting at.rows at.m c.row_of.result c.loop-m-test.true c.row_of.ensures at.invariant.1)

pub returns : goal.returns
unfolding table_of
returns c =
    let at = c.loop-m in
    ap (λ (rows : List Posting). record { count = get_or c.args.board.now.counts count_at 0; rows = rows })
    (filled_all capacity _ no_posting at.rows at.m c.loop-m-test.false at.invariant.1)
