-- `audit_records` meets its contract.
-- Rests on Lawful. Assumes nothing.
use Rattle.std.proofs.Common.{length, refl, ◌∙◌}
use Rattle.audit_input.proofs.Judgements.{judgement_ok, judgement_error}
use Rattle.audit_records.proofs.Lawful.{audited_refused, audited_lawful, not_refused}
use Rattle.audit_records.proofs.audit_records.Goals as goal

pub returns-in-Err : goal.returns-in-Err
returns-in-Err c =
    let v = c.args in
    let p = v.postings in
    let r = v.records in
    let (is, some) = judgement_error _ _ c.in-Err.ensures in
    is ∙ audited_refused v.matrix p.kinds.now p.firsts.now p.seconds.now p.amounts.now r.lines.now r.ends.now (length v.marks.now) (length v.places.now) (length v.ahead.now) _ refl some

pub audit_lawful-requires : goal.audit_lawful-requires
audit_lawful-requires c =
    let v = c.args in
    let p = v.postings in
    let r = v.records in
    not_refused v.matrix p.kinds.now p.firsts.now p.seconds.now p.amounts.now r.lines.now r.ends.now (length v.marks.now) (length v.places.now) (length v.ahead.now) _ refl (judgement_ok _ c.in-Ok.ensures) _ c.judge.auto.marks

pub returns-in-Ok : goal.returns-in-Ok
returns-in-Ok c =
    let v = c.args in
    let p = v.postings in
    let r = v.records in
    (search) ∙ audited_lawful v.matrix p.kinds.now p.firsts.now p.seconds.now p.amounts.now r.lines.now r.ends.now (length v.marks.now) (length v.places.now) (length v.ahead.now) _ refl (judgement_ok _ c.in-Ok.ensures)
