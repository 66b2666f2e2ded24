-- The loop's invariant: after p sites their figures stand before what is left of the slice.
-- Rests on All. Assumes nothing.
use Rattle.std.proofs.Common.{◌≡◌, ◌*◌, ◌++◌, drop}
use Rattle.audit_books.specs.All.{numbers_of_all}
use Rattle.audit_books.proofs.figures_all.Given as goal

abbrev pub invariant-loop-p : goal.invariant-loop-p
invariant-loop-p l =
    l.out ≡ numbers_of_all l.postings.kinds.now l.postings.firsts.now l.postings.seconds.now l.postings.amounts.now l.records.lines.now l.records.ends.now l.p ++ drop (64 * l.p) l.initial.out
