-- `lowest_differing` meets its contract.
-- Rests on Marks. Assumes nothing.
use Rattle.audit_rule.specs.Handed.{table_of, record_of}
use Rattle.audit_pair.proofs.Marks.{lowest_says}
use Rattle.audit_pair.proofs.lowest_differing.Goals as goal

pub returns : goal.returns
returns c =
    let v = c.args in
    let p = v.postings in
    let r = v.records in
    rw (c.from.ensures, lowest_says v.matrix (table_of p.kinds.now p.firsts.now p.seconds.now p.amounts.now) (record_of r.lines.now r.ends.now v.site) r.lines.now v.y _ (rw c.record_of.ensures at c.mark_both.ensures) _) at c.lowest_marked.ensures
