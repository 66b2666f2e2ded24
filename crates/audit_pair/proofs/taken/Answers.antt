-- `taken` meets its contract.
-- Assumes nothing.
use borrow.Author.Tests.{eq-eqb, ne_eqb}
use Rattle.audit_pair.specs.Pair.{taken}
use Rattle.audit_pair.proofs.taken.Goals as goal

pub returns-then-lowest-n : goal.returns-then-lowest-n
unfolding taken
returns-then-lowest-n c = let v = c.args in rw (eq-eqb v.lowest v.n c.if-lowest-n.true)

pub returns-else-lowest-n : goal.returns-else-lowest-n
unfolding taken
returns-else-lowest-n c = let v = c.args in rw (ne_eqb v.lowest v.n c.if-lowest-n.false)
