-- `put_pair_in` meets its contract.
-- Assumes nothing.
use native.Mathlib.Omega.{arith}
use Rattle.printer.proofs.Writing.{then_put, put_room}
use Rattle.printer.proofs.print.put_pair_in.Goals as goal

pub put_in-requires : goal.put_in-requires
put_in-requires c = omega (arith, put_room 1 c.put_in-place.ensures (omega arith))

pub returns : goal.returns
returns c = then_put c.put_in-place.ensures c.put_in.ensures
