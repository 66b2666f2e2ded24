-- `entries_from` meets its contract.
-- Assumes nothing.
use Prim.Native.Nat.{◌-◌}
use Rattle.sets.specs.Sets.{capacity}
use Rattle.site.specs.Sites.{no_set}
use Rattle.views.proofs.Filled.{filled_begin, filled_step, filled_all}
use borrow.Author.Rules.{rules}
use Rattle.image.proofs.reading.entries_from.Goals as goal

pub loop-m-init : goal.loop-m-init
loop-m-init c = (search rules, filled_begin capacity _ no_set _)

pub loop-m-preserved : goal.loop-m-preserved
loop-m-preserved c =
    let at = c.loop-m in
    (search rules, filled_step capacity _ no_set at.all at.m c.set_from.result c.loop-m-test.true c.set_from.ensures at.invariant.1)

pub returns : goal.returns
returns c =
    let at = c.loop-m in
    filled_all capacity _ no_set at.all at.m c.loop-m-test.false at.invariant.1
