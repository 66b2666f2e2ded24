-- `unknown_line` meets its contract.
-- Rests on audit_rule's Seeking. Assumes nothing.
use Rattle.std.proofs.Common.{sym, ◌∙◌}
use Rattle.audit_rule.proofs.Seeking.{seek_some, seek_next, seek_none}
use Rattle.audit_input.specs.Input.{unknown_line}
use Rattle.audit_input.proofs.unknown_line.Goals as goal

pub returns-then-unused : goal.returns-then-unused
unfolding unknown_line
returns-then-unused c = seek_some c.loop-i.invariant c.loop-i-test.true (rw c.from.ensures at (sym c.unused.ensures ∙ c.if-unused.true))

pub loop-i-preserved : goal.loop-i-preserved
loop-i-preserved c = seek_next c.loop-i.invariant c.loop-i-test.true (rw c.from.ensures at (sym c.unused.ensures ∙ c.if-unused.false))

pub returns : goal.returns
unfolding unknown_line
returns c = seek_none c.loop-i.invariant c.loop-i-test.false
