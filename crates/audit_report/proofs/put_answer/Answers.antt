-- `put_answer` meets its contract.
-- Rests on Texts. Assumes nothing.
use mathlib.Core.Logic.{inl, inr}
use borrow.Author.Rules.{rules}
use Rattle.printer.proofs.Writing.{put_as}
use Rattle.audit_report.proofs.Texts.{agreed_as, refused_as, departs_as}
use Rattle.audit_report.proofs.put_answer.Goals as goal

pub returns-in-0 : goal.returns-in-0
returns-in-0 c = put_as (agreed_as _ _ _ _ _ _ c.args.input.tops.now _ _ _ c.args.r c.in-0.is (c.requires.noted (inl c.in-0.is))) c.put_agreed.ensures

pub returns-in-1-to-9 : goal.returns-in-1-to-9
returns-in-1-to-9 c =
    let n = c.args.notes in
    put_as (refused_as _ _ _ _ _ _ c.args.input.tops.now n.counts.now n.lowests.now n.figures.now c.args.r (search rules) (search rules) _ c.refusal_of.ensures) c.put_refused.ensures

pub returns-in_default : goal.returns-in_default
returns-in_default c =
    put_as (departs_as _ _ _ _ _ _ _ _ _ _ c.args.r (search rules) (c.requires.noted (inr (search rules)))) c.put_departs.ensures
