-- `first_unlawful` meets its contract.
-- Rests on audit_rule's Seeking. Assumes nothing.
use Rattle.std.proofs.Common.{sym, ◌∙◌}
use Rattle.audit_rule.proofs.Seeking.{seek_some, seek_next}
use Rattle.audit_input.proofs.first_unlawful.Goals as goal

pub returns-then-unlawful : goal.returns-then-unlawful
returns-then-unlawful c = seek_some c.loop-x.invariant c.loop-x-test.true (sym c.unlawful.ensures ∙ c.if-unlawful.true)

pub loop-x-preserved : goal.loop-x-preserved
loop-x-preserved c = seek_next c.loop-x.invariant c.loop-x-test.true (sym c.unlawful.ensures ∙ c.if-unlawful.false)
