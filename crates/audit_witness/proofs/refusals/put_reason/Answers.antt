-- `put_reason` meets its contract.
-- Assumes nothing.
use borrow.Author.Tests.{ne_eqb}
use Rattle.printer.proofs.Writing.{then_put}
use Rattle.audit_witness.specs.Refusals.{reason_words}
use Rattle.audit_witness.proofs.refusals.put_reason.Goals as goal

pub returns-else-code-eq4 : goal.returns-else-code-eq4
unfolding reason_words
returns-else-code-eq4 c =
    rw (ne_eqb c.args.code 4 c.if-code-eq4.false)
    (then_put c.put_text-p.ensures
    (then_put c.put_number-q.ensures c.put_fault.ensures))
