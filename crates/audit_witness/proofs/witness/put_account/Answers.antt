-- `put_account` meets its contract.
-- Assumes nothing.
use mathlib.Core.Path.{ap}
use Rattle.printer.specs.Output.{decimal}
use Rattle.printer.proofs.Writing.{then_put, put_as}
use Rattle.audit_witness.specs.Witness.{account_words}
use Rattle.audit_witness.proofs.witness.put_account.Goals as goal

pub returns : goal.returns
unfolding account_words
returns c =
    then_put c.put_text-p.ensures
    (then_put (put_as (ap decimal c.from.ensures) c.put_number-q.ensures) c.put_text.ensures)
