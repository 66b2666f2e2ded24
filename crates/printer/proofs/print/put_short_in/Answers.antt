-- `put_short_in` meets its contract.
-- Assumes nothing.
use Prim.Native.Nat.{ℕ, ◌/◌, ◌<◌}
use mathlib.Core.Path.{ap, ◌∙◌}
use mathlib.Core.List.{[], ◌∷◌}
use native.Mathlib.Omega.{arith}
use Rattle.printer.proofs.Texts.{decimal_last, decimal_two, decimal_hundreds}
use Rattle.printer.proofs.Writing.{then_put, put_as, put_room}
use Rattle.printer.proofs.print.put_short_in.Goals as goal

pub returns-then-x-lt10 : goal.returns-then-x-lt10
returns-then-x-lt10 c =
    put_as (ap (λ (d : ℕ). d ∷ []) c.last_digit.ensures ∙ decimal_last _ c.if-x-lt10.true) c.put_in.ensures

pub returns-then-x-lt100 : goal.returns-then-x-lt100
returns-then-x-lt100 c =
    put_as (decimal_two _ c.if-x-lt10.false c.if-x-lt100.true) c.put_two_in.ensures

pub put_two_in-requires-2 : goal.put_two_in-requires-2
put_two_in-requires-2 c = put_room 2 c.put_in-place.ensures (omega arith)

pub returns : goal.returns
returns c =
    let x = c.args.x in
    let single : x / 100 < 10 = omega arith in
    let first = ap (λ (d : ℕ). d ∷ []) c.last_digit-2.ensures ∙ decimal_last (x / 100) single in
    put_as (decimal_hundreds x c.if-x-lt100.false) (then_put (put_as first c.put_in-place.ensures) c.put_two_in-2.ensures)
