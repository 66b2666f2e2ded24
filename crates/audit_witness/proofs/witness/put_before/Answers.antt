-- `put_before` meets its contract.
-- Assumes nothing.
use Prim.Native.Nat.{ℕ, ◌+◌}
use mathlib.Core.Path.{ap}
use native.Mathlib.Omega.{arith}
use Rattle.printer.specs.Output.{decimal}
use Rattle.printer.proofs.Writing.{then_put, put_as}
use Rattle.audit_witness.specs.Witness.{before_words}
use Rattle.audit_witness.proofs.witness.put_before.Goals as goal

pub overflow_add-line : goal.overflow_add-line
overflow_add-line c = record { fits = omega (arith, c.from.ensures, c.requires.1) }

pub returns : goal.returns
unfolding before_words
returns c =
    then_put c.put_text-a.ensures
    (then_put c.put_number-b.ensures
    (then_put c.put_text-c.ensures
    (then_put (put_as (ap (λ (k : ℕ). decimal (k + c.args.r.line)) c.from.ensures) c.put_number-d.ensures) c.put_text.ensures)))
