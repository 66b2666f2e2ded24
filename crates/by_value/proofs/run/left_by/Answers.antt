-- `left_by` meets its contract.
-- Assumes nothing.
use Prim.Native.Nat.{◌-◌}
use Rattle.by_value.proofs.LeftBy.{after, left_none, left_more, left_all}
use borrow.Author.Rules.{rules}
use Rattle.by_value.proofs.run.left_by.Goals as goal

pub loop-k-init : goal.loop-k-init
loop-k-init c = (search rules, left_none _ _)

pub loop-k-preserved : goal.loop-k-preserved
loop-k-preserved c =
    let at = c.loop-k in
    (search rules, left_more c.args.board c.args.input.now at.after at.k _ _ at.invariant.1 c.call_at-call.ensures c.take_call-outcome.ensures)

pub returns : goal.returns
returns c =
    let at = c.loop-k in
    left_all c.args.board c.args.input.now at.after at.k _ at.invariant.1 at.invariant.0 c.loop-k-test.false c.event_count-count.ensures
