-- `report` meets its contract.
-- Rests on Texts and Answered. Assumes nothing.
use native.Mathlib.Omega.{arith}
use lib.ListN.{length}
use Rattle.audit_report.proofs.Texts.{reported}
use Rattle.audit_report.proofs.Answered.{answer_ready, answer_prepared}
use Rattle.audit_report.proofs.report.Goals as goal

pub prepare-requires : goal.prepare-requires
prepare-requires c =
    let a = c.args in
    let p = a.input.postings in
    let r = a.input.records in
    answer_ready a.matrix p.kinds.now p.firsts.now p.seconds.now p.amounts.now r.lines.now r.ends.now (length a.marks.now) (length a.places.now) (length a.ahead.now) _ c.audit_records-r.ensures _ 7 7 _
    (omega arith) (omega arith) (omega arith) c.requires.2

pub print_answer-requires : goal.print_answer-requires
print_answer-requires c =
    let a = c.args in
    let p = a.input.postings in
    let r = a.input.records in
    answer_prepared a.matrix p.kinds.now p.firsts.now p.seconds.now p.amounts.now r.lines.now r.ends.now (length a.marks.now) (length a.places.now) (length a.ahead.now) _ c.audit_records-r.ensures
    a.input.tops.now c.prepare.new.counts c.prepare.new.lowests c.prepare.new.figures c.requires.0 c.requires.1 (omega arith) (omega arith) c.prepare.ensures

pub returns : goal.returns
returns c =
    let a = c.args in
    let p = a.input.postings in
    let r = a.input.records in
    let shown = reported a.matrix p.kinds.now p.firsts.now p.seconds.now p.amounts.now r.lines.now r.ends.now a.input.tops.now (length a.marks.now) (length a.places.now) (length a.ahead.now) _
    c.audit_records-r.ensures a.out.now {t = c.print_answer.new.out} (c.print_answer.ensures.value, c.print_answer.ensures.out_after) in
    record { value = shown.0; out_after = shown.1 }
