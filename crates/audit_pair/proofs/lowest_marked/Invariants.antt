-- The loop's invariant: the answer is what is left to search.
-- Rests on Seeking. Assumes nothing.
use Rattle.std.proofs.Common.{length}
use Rattle.audit_rule.specs.Handed.{table_of}
use Rattle.audit_pair.specs.Pair.{mark_differs}
use Rattle.audit_rule.proofs.Seeking.{Seeking}
use Rattle.audit_pair.proofs.lowest_marked.Given as goal

abbrev pub invariant-loop-x : goal.invariant-loop-x
invariant-loop-x l =
    Seeking (mark_differs l.matrix (table_of l.postings.kinds.now l.postings.firsts.now l.postings.seconds.now l.postings.amounts.now) l.marks l.y) (length l.postings.kinds.now) l.x
