-- `lay_amounts` meets its contract.
-- Assumes nothing.
use Prim.Native.Nat.{◌-◌}
use mathlib.Core.Path.{refl}
use lib.ListN.{get_or, set}
use Rattle.posting.specs.Conflicts.{no_posting}
use Rattle.sets.specs.Sets.{capacity}
use Rattle.layout.proofs.Grid.{up_none, up_more, up_end}
use borrow.Author.Rules.{rules}
use Rattle.layout.proofs.lay_amounts.Goals as goal

pub loop-m-init : goal.loop-m-init
loop-m-init c = (search rules, up_none _ _)

pub loop-m-preserved : goal.loop-m-preserved
loop-m-preserved c =
    let at = c.loop-m in
    (search rules, up_more _ _ at.amounts _ at.m at.invariant.1 (refl {a = set at.amounts at.m (get_or c.args.rows at.m no_posting).amount}))

pub returns : goal.returns
returns c =
    let at = c.loop-m in
    up_end _ _ at.amounts at.m capacity at.invariant.1 at.invariant.0 c.loop-m-test.false
