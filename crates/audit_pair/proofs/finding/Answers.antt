-- `finding` meets its contract where it tells a pair.
-- Rests on Answers. Assumes nothing.
use mathlib.Core.Path.{sym, ◌∙◌}
use Rattle.audit_pair.proofs.Answers.{answers_crossed, answers_missing, answers_apart}
use Rattle.audit_pair.proofs.finding.Goals as goal

pub returns-then-s-n-2 : goal.returns-then-s-n-2
returns-then-s-n-2 c =
    c.answer.ensures ∙ sym (answers_crossed _ _ _ _ c.sites_of-s.ensures c.if-s-n.true c.if-s-n-2.true)

pub returns-then-s-n-5 : goal.returns-then-s-n-5
returns-then-s-n-5 c =
    c.answer-then-s-n-5.ensures ∙ sym (answers_missing _ _ _ _ c.sites_of-s.ensures c.if-s-n.false c.if-s-n-4.true c.if-s-n-5.true)

pub returns-then-s-n-7 : goal.returns-then-s-n-7
returns-then-s-n-7 c =
    c.answer-then-s-n-7.ensures ∙ sym (answers_apart _ _ _ _ c.sites_of-s.ensures c.if-s-n.false c.if-s-n-4.false c.if-s-n-6.true c.if-s-n-7.true)
