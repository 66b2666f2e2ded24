-- `judge_lines` meets its contract.
-- Rests on Accepted and Judgements. Assumes nothing.
use Rattle.std.proofs.Common.{length, refl, ap, arith}
use Rattle.audit_rule.specs.Handed.{record_of}
use Rattle.audit_input.specs.declared.Answer.{Answer}
use Rattle.audit_input.specs.Input.{unknown_line, repeated_line}
use Rattle.audit_input.proofs.Searches.{spot_is, spot_is_past, spot_lies}
use Rattle.audit_input.proofs.Accepted.{known_numbered, judged_unknown, judged_twice, judged_neither}
use Rattle.audit_input.proofs.Judgements.{as_error, as_ok}
use Rattle.audit_input.proofs.judge_lines.Goals as goal

pub refused_unknown-requires : goal.refused_unknown-requires
refused_unknown-requires c =
    let r = c.args.records in
    let l = spot_lies (unknown_line c.args.kinds.now) (length r.ends.now) (record_of r.lines.now r.ends.now) _ c.in-Some.ensures in
    (c.requires.0, l.0, l.1)

pub returns-in-Some : goal.returns-in-Some
returns-in-Some c =
    let r = c.args.records in
    let (is, within) = spot_is _ _ _ c.in-Some.ensures in
    as_error _ _ _ c.refused_unknown.ensures (judged_unknown c.args.kinds.now r.lines.now r.ends.now c.in-Some.spot is within) (omega arith)

pub first_repeat-requires : goal.first_repeat-requires
first_repeat-requires c =
    let r = c.args.records in
    (c.requires.0, known_numbered c.args.kinds.now r.lines.now r.ends.now c.requires.2 (spot_is_past _ _ c.in_default.ensures) _ c.requires.1)

pub refused_twice-requires : goal.refused_twice-requires
refused_twice-requires c =
    let r = c.args.records in
    let l = spot_lies repeated_line (length r.ends.now) (record_of r.lines.now r.ends.now) _ c.in-Some-first_repeat.ensures in
    (c.requires.0, l.0, l.1)

pub returns-in-Some-first_repeat : goal.returns-in-Some-first_repeat
returns-in-Some-first_repeat c =
    let r = c.args.records in
    let (is, within) = spot_is _ _ _ c.in-Some-first_repeat.ensures in
    as_error _ _ _ c.refused_twice.ensures
    (judged_twice c.args.kinds.now r.lines.now r.ends.now _ c.in-Some-first_repeat.spot refl (spot_is_past _ _ c.in_default.ensures) is within) (omega arith)

pub returns : goal.returns
returns c =
    let r = c.args.records in
    as_ok _ (ap (λ (a : Answer). a.code) (judged_neither c.args.kinds.now r.lines.now r.ends.now _ _ refl (spot_is_past _ _ c.in_default.ensures) refl (spot_is_past _ _ c.in_default-first_repeat.ensures)))
