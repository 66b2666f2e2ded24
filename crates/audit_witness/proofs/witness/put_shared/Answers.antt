-- `put_shared` meets its contract.
-- Assumes nothing.
use mathlib.Core.Path.{sym, ap, ◌∙◌}
use Rattle.printer.specs.Output.{decimal}
use Rattle.printer.proofs.Writing.{nothing_put, then_put, put_as}
use Rattle.audit_witness.specs.Witness.{shared_account}
use Rattle.audit_witness.proofs.witness.put_shared.Goals.{else-touches-via-then-touches+else-touches-2, else-touches-via-else-touches}
use Rattle.audit_witness.proofs.witness.put_shared.Goals as goal

pub returns-then-touches-2 : goal.returns-then-touches-2
unfolding shared_account
returns-then-touches-2 c =
    rw (sym c.touches.ensures ∙ c.if-touches.true, sym c.touches-then-touches.ensures ∙ c.if-touches-2.true)
    (then_put c.put_text-place.ensures (put_as (ap decimal c.from.ensures) c.put_number.ensures))

pub returns-else-touches : goal.returns-else-touches
unfolding shared_account
returns-else-touches c = elim c.else-touches.branch [
  | else-touches-via-then-touches+else-touches-2 w ↦
      rw (sym c.touches.ensures ∙ w.if-touches.true, sym w.touches-then-touches.ensures ∙ w.if-touches-2.false) (nothing_put c.args.at c.args.out.now)
  | else-touches-via-else-touches w ↦ rw (sym c.touches.ensures ∙ w.if-touches.false) (nothing_put c.args.at c.args.out.now)
]
