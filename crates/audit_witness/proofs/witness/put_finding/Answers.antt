-- `put_finding` meets its contract.
-- Assumes nothing.
use borrow.Author.Rules.{rules}
use borrow.Author.Tests.{ne_eqb}
use Rattle.printer.proofs.Writing.{then_put}
use Rattle.audit_witness.specs.Witness.{finding_words}
use Rattle.audit_witness.proofs.witness.put_finding.Goals as goal

pub returns-in-10 : goal.returns-in-10
unfolding finding_words
returns-in-10 c = rw c.in-10.is (then_put c.put_ahead-a.ensures c.put_ahead.ensures)

pub returns-in-11 : goal.returns-in-11
unfolding finding_words
returns-in-11 c = rw c.in-11.is (then_put c.put_without-a.ensures c.put_ahead-in-11.ensures)

pub returns-in_default : goal.returns-in_default
unfolding finding_words
returns-in_default c =
    rw (ne_eqb c.args.r.code 10 (search rules), ne_eqb c.args.r.code 11 (search rules))
    (then_put c.put_without-a-in_default.ensures
    (then_put c.put_without-b.ensures c.put_text.ensures))
