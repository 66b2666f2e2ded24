-- `put_number_in` meets its contract.
-- Assumes nothing.
use Prim.Native.Nat.{◌/◌, ◌<◌, ◌≤◌}
use native.Mathlib.Omega.{arith}
use Rattle.printer.proofs.Texts.{decimal_two, decimal_hundreds}
use Rattle.printer.proofs.Writing.{then_put, put_as, put_room}
use Rattle.printer.proofs.print.put_number_in.Goals as goal

pub put_two_in-requires : goal.put_two_in-requires
put_two_in-requires c = put_room 2 c.put_two_in-place.ensures (omega arith)

pub returns-then-x-lt-MOST_EVENTS : goal.returns-then-x-lt-MOST_EVENTS
returns-then-x-lt-MOST_EVENTS c =
    let x = c.args.x in
    let hundred : 100 ≤ x = omega arith in
    let more : 10 ≤ x / 100 = omega arith in
    let less : x / 100 < 100 = omega arith in
    put_as (decimal_hundreds x hundred) (then_put (put_as (decimal_two (x / 100) more less) c.put_two_in-place.ensures) c.put_two_in.ensures)
