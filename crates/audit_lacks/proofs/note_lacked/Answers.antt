-- `note_lacked` meets its contract.
-- Rests on Marks. Assumes nothing.
use Rattle.std.proofs.Common.{arith}
use Rattle.audit_rule.proofs.Searches.{lowest_or}
use Rattle.audit_lacks.proofs.Marks.{only, lacking_next}
use Rattle.audit_lacks.proofs.note_lacked.Goals as goal

pub loop-p-preserved : goal.loop-p-preserved
loop-p-preserved c =
    let r = c.args.records in
    let l = c.loop-p in
    let marks = c.mark_lacked.new.marks in
    lacking_next r.lines.now r.ends.now c.args.bound marks l.counts l.lowests l.p c.count_lacked.result c.unwrap_or.result (omega arith) (omega arith)
    c.mark_lacked.ensures c.count_lacked.ensures (rw (c.lowest_lacked.ensures, lowest_or (only marks) c.args.bound) at c.unwrap_or.ensures) l.invariant
