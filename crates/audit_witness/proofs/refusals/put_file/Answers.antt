-- `put_file` meets its contract.
-- Assumes nothing.
use borrow.Author.Tests.{ne_eqb}
use Rattle.printer.proofs.Writing.{then_put}
use Rattle.audit_witness.specs.Refusals.{file_words}
use Rattle.audit_witness.proofs.refusals.put_file.Goals as goal

pub returns-else-file-eq0 : goal.returns-else-file-eq0
unfolding file_words
returns-else-file-eq0 c =
    rw (ne_eqb c.args.file 0 c.if-file-eq0.false)
    (then_put c.put_text-p.ensures
    (then_put c.put_number-q.ensures c.put_text-else-file-eq0.ensures))
