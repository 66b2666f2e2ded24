-- `postings_sets` meets its contract.
-- Assumes nothing.
use Prim.Native.Nat.{◌-◌}
use Rattle.sets.specs.Sets.{capacity}
use Rattle.layout.proofs.Grid.{up_none, up_more, up_end}
use borrow.Author.Rules.{rules}
use Rattle.layout.proofs.postings_sets.Goals as goal

pub loop-m-init : goal.loop-m-init
loop-m-init c = (search rules, up_none _ _)

pub loop-m-preserved : goal.loop-m-preserved
loop-m-preserved c =
    let at = c.loop-m in
    (search rules, up_more _ _ at.words _ at.m at.invariant.1 c.posting_sets.ensures)

pub returns : goal.returns
returns c =
    let at = c.loop-m in
    up_end _ _ at.words at.m capacity at.invariant.1 at.invariant.0 c.loop-m-test.false
