-- `put_unread` meets its contract.
-- Assumes nothing.
use mathlib.Core.Bool.{cond}
use lib.Dec.{eqb}
use borrow.Author.Tests.{eq-eqb, ne_eqb}
use Rattle.printer.specs.Puts.{Put}
use Rattle.printer.proofs.Writing.{then_put}
use Rattle.amounts.specs.Amounts.{text}
use Rattle.audit_witness.specs.Refusals.{unread_words}
use Rattle.audit_witness.proofs.refusals.put_unread.Goals.{then-long-eq0, else-long-eq0}
use Rattle.audit_witness.proofs.refusals.put_unread.Goals as goal

pub returns : goal.returns
unfolding unread_words
returns c =
    let v = c.args in
    let first : Put (cond (eqb v.long 0) (text "This file cannot be read: ") (text "This file has 2097152 bytes or more: ")) v.at v.out.now c.if-long-eq0.out c.if-long-eq0.p
    = elim c.if-long-eq0.branch [
      | then-long-eq0 w ↦ rw (eq-eqb v.long 0 w.if-long-eq0.true, w.out-is, w.p-is) w.put_text-p.ensures
      | else-long-eq0 w ↦ rw (ne_eqb v.long 0 w.if-long-eq0.false, w.out-is, w.p-is) w.put_text-p-else-long-eq0.ensures
    ] in
    then_put first (then_put c.put_file-q.ensures c.put_text.ensures)
