-- `mark_differs` meets its contract where the mark is of one sort only.
-- Rests on Marks. Assumes nothing.
use mathlib.Core.Path.{sym, ◌∙◌}
use borrow.Author.Tests.{ne_eqb}
use Rattle.audit_pair.specs.Pair.{one_sided}
use Rattle.audit_pair.proofs.Marks.{conflict_at}
use Rattle.audit_pair.proofs.mark_differs.Goals as goal

pub returns-then-mark-ne-BOTH : goal.returns-then-mark-ne-BOTH
unfolding one_sided
returns-then-mark-ne-BOTH c =
    let v = c.args in
    let w = v.postings in
    rw (ne_eqb v.mark 0 c.if-mark-ne-BOTH.true.0, ne_eqb v.mark 3 c.if-mark-ne-BOTH.true.1)
    (rw (c.posting_at.ensures, c.posting_at-then-mark-ne-BOTH.ensures) at c.conflicting.ensures
    ∙ sym (conflict_at v.matrix w.kinds.now w.firsts.now w.seconds.now w.amounts.now v.x v.y c.requires.1 c.requires.2))
