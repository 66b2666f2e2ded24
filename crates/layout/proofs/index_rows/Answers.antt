-- `index_rows` meets its contract.
-- Assumes nothing.
use Prim.Native.Nat.{◌<◌, ◌-◌}
use native.Mathlib.Omega.{arith}
use Rattle.sets.specs.Sets.{capacity}
use Rattle.posting.specs.Conflicts.{row}
use Rattle.layout.proofs.Grid.{up_none, up_more, up_end}
use borrow.Author.Rules.{rules}
use Rattle.layout.proofs.index_rows.Goals as goal

pub loop-m-init : goal.loop-m-init
loop-m-init c = (search rules, up_none _ _)

pub enter-requires : goal.enter-requires
unfolding row
enter-requires c =
    let m = c.loop-m.m in
    let h = c.loop-m-test.true in
    let ok = c.requires in
    let fits : m < capacity = omega (arith, ok.count) in
    (fits, ok.kinds m h, ok.accounts m h)

pub loop-m-preserved : goal.loop-m-preserved
unfolding row
loop-m-preserved c =
    let at = c.loop-m in
    (search rules, up_more _ _ at.words _ at.m at.invariant.1 c.enter.ensures)

pub returns : goal.returns
returns c =
    let at = c.loop-m in
    let count = c.args.table.count in
    up_end _ _ at.words at.m count at.invariant.1 at.invariant.0 c.loop-m-test.false
