-- `lowest_marked` meets its contract.
-- Rests on Seeking. Assumes nothing.
use Rattle.std.proofs.Common.{◌∙◌, sym}
use Rattle.audit_pair.specs.Pair.{mark_differs}
use Rattle.audit_rule.proofs.Seeking.{seek_some, seek_next}
use Rattle.audit_pair.proofs.lowest_marked.Goals as goal

pub returns-then-mark_differs : goal.returns-then-mark_differs
unfolding mark_differs
returns-then-mark_differs c =
    seek_some c.loop-x.invariant c.loop-x-test.true (sym c.mark_differs.ensures ∙ c.if-mark_differs.true)

pub loop-x-preserved : goal.loop-x-preserved
unfolding mark_differs
loop-x-preserved c =
    seek_next c.loop-x.invariant c.loop-x-test.true (sym c.mark_differs.ensures ∙ c.if-mark_differs.false)
