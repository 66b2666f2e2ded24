-- `mark_all` meets its contract.
-- Rests on Marks. Assumes nothing.
use Rattle.std.proofs.Common.{arith}
use Rattle.audit_lacks.proofs.Marks.{valued_next}
use Rattle.audit_lacks.proofs.mark_all.Goals as goal

pub loop-x-preserved : goal.loop-x-preserved
loop-x-preserved c =
    let l = c.loop-x in
    let k = c.requires l.x-index c.loop-x-test.true in
    rw c.from.ensures (valued_next c.args.lines.now c.args.value c.args.marks.now l.marks l.x-index c.loop-x-test.true (omega arith) l.invariant)
