-- The loop's invariant: the answer is what is left to search.
-- Rests on audit_rule's Seeking. Assumes nothing.
use Rattle.std.proofs.Common.{length}
use Rattle.audit_rule.proofs.Seeking.{Seeking}
use Rattle.audit_input.specs.Input.{repeated_line}
use Rattle.audit_input.proofs.Searches.{has}
use Rattle.audit_input.proofs.first_repeat.Given as goal

abbrev pub invariant-loop-site : goal.invariant-loop-site
invariant-loop-site l = Seeking (has repeated_line l.records.lines.now l.records.ends.now) (length l.records.ends.now) l.site
