-- `judge` meets its contract.
-- Rests on Accepted and Judgements. Assumes nothing.
use Rattle.std.proofs.Common.{length, sym, ap, refl, ◌∙◌, arith}
use Rattle.audit_input.specs.Refusals.{judgement}
use Rattle.audit_rule.proofs.Searches.{below_some, below_none}
use Rattle.audit_input.proofs.Accepted.{sizes_none, judged_sizes, judged_fields, judged_lines}
use Rattle.audit_input.proofs.Judgements.{number_above, as_error}
use Rattle.audit_input.proofs.judge.Goals as goal

pub returns-in-Some : goal.returns-in-Some
returns-in-Some c =
    let p = c.args.postings in
    let r = c.args.records in
    let above = number_above c.in-Some.why in
    as_error _ _ _ c.refused.ensures
    (judged_sizes c.args.matrix p.kinds.now p.firsts.now p.seconds.now p.amounts.now r.lines.now r.ends.now (length c.args.marks.now) c.args.places c.args.ahead _ c.in-Some.ensures (λ z. absurd (omega (arith, z)))) above

pub first_unlawful-requires : goal.first_unlawful-requires
first_unlawful-requires c =
    let p = c.args.postings in
    let r = c.args.records in
    (sizes_none c.args.matrix p.kinds.now p.firsts.now p.seconds.now p.amounts.now r.lines.now r.ends.now (length c.args.marks.now) c.args.places c.args.ahead (sym c.in_default.ensures)).fields

pub returns-in-Some-first_unlawful : goal.returns-in-Some-first_unlawful
returns-in-Some-first_unlawful c =
    let p = c.args.postings in
    let r = c.args.records in
    let (is, within) = below_some c.in-Some-first_unlawful.ensures in
    as_error _ _ _ c.refused-in-Some-first_unlawful.ensures
    (judged_fields c.args.matrix p.kinds.now p.firsts.now p.seconds.now p.amounts.now r.lines.now r.ends.now (length c.args.marks.now) c.args.places c.args.ahead 0 _ c.in_default.ensures refl is within) (omega arith)

pub judge_lines-requires : goal.judge_lines-requires
judge_lines-requires c =
    let p = c.args.postings in
    let r = c.args.records in
    let s = sizes_none c.args.matrix p.kinds.now p.firsts.now p.seconds.now p.amounts.now r.lines.now r.ends.now (length c.args.marks.now) c.args.places c.args.ahead (sym c.in_default.ensures) in
    (s.ends_rise, s.rooms.0, s.joins)

pub returns : goal.returns
returns c =
    let p = c.args.postings in
    let r = c.args.records in
    c.judge_lines.ensures
    ∙ ap judgement (judged_lines c.args.matrix p.kinds.now p.firsts.now p.seconds.now p.amounts.now r.lines.now r.ends.now (length c.args.marks.now) c.args.places c.args.ahead 0 _ c.in_default.ensures refl refl (below_none c.in_default-first_unlawful.ensures))
