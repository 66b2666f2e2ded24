-- `put_long` meets its contract.
-- Assumes nothing.
use Prim.Native.Nat.{ℕ, ◌/◌}
use mathlib.Core.Path.{ap, ◌∙◌}
use mathlib.Core.List.{[], ◌∷◌, ◌++◌}
use Rattle.printer.specs.Output.{decimal}
use Rattle.printer.proofs.Texts.{decimal_last, decimal_more}
use Rattle.printer.proofs.Writing.{then_put, put_as}
use Rattle.printer.proofs.print.+put_long.Goals as goal

pub returns-then-x-lt10 : goal.returns-then-x-lt10
returns-then-x-lt10 t c =
    put_as (ap (λ (d : ℕ). d ∷ []) c.last_digit-digit.ensures ∙ decimal_last c.args.x c.if-x-lt10.true) c.put.ensures

pub returns : goal.returns
returns t c =
    put_as (ap (λ (d : ℕ). decimal (c.args.x / 10) ++ (d ∷ [])) c.last_digit-digit.ensures ∙ decimal_more c.args.x c.if-x-lt10.false)
    (then_put c.put_long-place.ensures c.put-2.ensures)
