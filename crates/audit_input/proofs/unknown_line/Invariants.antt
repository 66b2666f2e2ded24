-- The loop's invariant: the answer is what is left to search.
-- Rests on audit_rule's Seeking. Assumes nothing.
use Rattle.std.proofs.Common.{length, get_or}
use Rattle.audit_rule.proofs.Seeking.{Seeking}
use Rattle.audit_input.specs.Input.{unused}
use Rattle.audit_input.proofs.unknown_line.Given as goal

abbrev pub invariant-loop-i : goal.invariant-loop-i
invariant-loop-i l = Seeking (λ i. unused l.kinds (get_or l.lines i 0)) (length l.lines) l.i
