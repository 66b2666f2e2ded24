-- `put_stands` meets its contract.
-- Assumes nothing.
use mathlib.Core.Path.{ap}
use Rattle.printer.specs.Output.{decimal}
use Rattle.printer.proofs.Writing.{then_put, put_as}
use Rattle.audit_witness.specs.Witness.{stands_words}
use Rattle.audit_witness.proofs.witness.put_stands.Goals as goal

pub returns : goal.returns
unfolding stands_words
returns c =
    then_put c.put_posting-a.ensures
    (then_put c.put_text-b.ensures
    (then_put (put_as (ap decimal c.line_number-line.ensures) c.put_number-c.ensures) c.put_text.ensures))
