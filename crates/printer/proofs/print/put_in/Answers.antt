-- `put_in` meets its contract.
-- Assumes nothing.
use Prim.Native.Nat.{◌<◌}
use mathlib.Core.Path.{refl}
use borrow.Author.Tests.{lt-ltb}
use native.Mathlib.Omega.{arith}
use Rattle.printer.specs.Puts.{last_place, after, putting}
use Rattle.printer.proofs.print.put_in.Goals as goal

pub returns : goal.returns
unfolding after putting
returns c =
    let at = c.args.at in
    let low : at < last_place = omega arith in
    record { moved = rw (lt-ltb at last_place low); holds = refl }
