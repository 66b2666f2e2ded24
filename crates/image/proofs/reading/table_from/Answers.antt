-- `table_from` meets its contract.
-- Assumes nothing.
use Prim.Native.Nat.{ℕ, ◌-◌}
use mathlib.Core.Path.{ap₂}
use mathlib.Core.List.{List}
use Rattle.sets.specs.Sets.{capacity}
use Rattle.posting.specs.declared.Posting.{Posting}
use Rattle.posting.specs.Conflicts.{no_posting}
use Rattle.image.specs.Image.{table_from}
use Rattle.views.proofs.Filled.{filled_begin, filled_step, filled_all}
use borrow.Author.Rules.{rules}
use Rattle.image.proofs.reading.table_from.Goals as goal

pub loop-m-init : goal.loop-m-init
loop-m-init c = (search rules, filled_begin capacity _ no_posting _)

pub loop-m-preserved : goal.loop-m-preserved
loop-m-preserved c =
    let at = c.loop-m in
    (search rules, filled_step capacity _ no_posting at.rows at.m c.row_from.result c.loop-m-test.true c.row_from.ensures at.invariant.1)

pub returns : goal.returns
unfolding table_from
returns c =
    let at = c.loop-m in
    ap₂ (λ (n : ℕ) (rows : List Posting). record { count = n; rows = rows }) c.count.ensures
    (filled_all capacity _ no_posting at.rows at.m c.loop-m-test.false at.invariant.1)
