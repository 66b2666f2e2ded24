-- The loop's invariant: the answer is what is left to search.
-- Rests on audit_rule's Seeking. Assumes nothing.
use Rattle.std.proofs.Common.{length}
use Rattle.audit_rule.proofs.Seeking.{Seeking}
use Rattle.audit_input.specs.Input.{unlawful}
use Rattle.audit_input.proofs.first_unlawful.Given as goal

abbrev pub invariant-loop-x : goal.invariant-loop-x
invariant-loop-x l =
    Seeking (unlawful l.postings.kinds.now l.postings.firsts.now l.postings.seconds.now l.postings.amounts.now) (length l.postings.kinds.now) l.x
