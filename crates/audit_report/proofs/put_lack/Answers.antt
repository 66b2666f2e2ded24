-- `put_lack` meets its contract.
-- Assumes nothing.
use borrow.Author.Tests.{eq-eqb, ne_eqb}
use Rattle.printer.proofs.Writing.{nothing_put, then_put}
use Rattle.audit_report.specs.Report.{lack_line}
use Rattle.audit_report.proofs.put_lack.Goals as goal

pub returns-then-many-eq0 : goal.returns-then-many-eq0
unfolding lack_line
returns-then-many-eq0 c = rw (eq-eqb c.args.many 0 c.if-many-eq0.true) (nothing_put c.args.at c.args.out.now)

pub put_posting-f-requires : goal.put_posting-f-requires
put_posting-f-requires c = c.requires c.if-many-eq0.false

pub returns : goal.returns
unfolding lack_line
returns c =
    rw (ne_eqb c.args.many 0 c.if-many-eq0.false)
    (then_put c.put_text-a.ensures
    (then_put c.put_number-b.ensures
    (then_put c.put_text-c.ensures
    (then_put c.put_number-d.ensures (then_put c.put_text-e.ensures (then_put c.put_posting-f.ensures c.put_text.ensures))))))
