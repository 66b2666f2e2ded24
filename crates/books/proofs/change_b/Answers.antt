-- `books::change_b` meets its contract.
-- Assumes nothing.
use borrow.Author.Tests.{eq-eqb, ne_eqb}
use Rattle.books.proofs.change_b.Goals as goal

pub returns-then-p : goal.returns-then-p
returns-then-p c = rw (eq-eqb c.args.p.a c.args.p.b c.if-p.true)

pub returns-else-p : goal.returns-else-p
returns-else-p c = rw (ne_eqb c.args.p.a c.args.p.b c.if-p.false) c.change.ensures
