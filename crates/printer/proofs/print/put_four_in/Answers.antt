-- `put_four_in` meets its contract.
-- Assumes nothing.
use native.Mathlib.Omega.{arith}
use Rattle.printer.proofs.Writing.{then_put, put_room}
use Rattle.printer.proofs.print.put_four_in.Goals as goal

pub put_pair_in-requires : goal.put_pair_in-requires
put_pair_in-requires c = put_room 2 c.put_pair_in-place.ensures (omega arith)

pub returns : goal.returns
returns c = then_put c.put_pair_in-place.ensures c.put_pair_in.ensures
