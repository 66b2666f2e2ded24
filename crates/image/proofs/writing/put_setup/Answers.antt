-- `put_setup` meets its contract.
-- Assumes nothing.
use native.Mathlib.Omega.{arith}
use lib.ListN.{set, length-set}
use Rattle.image.proofs.writing.put_setup.Goals as goal

pub bounds-out-1 : goal.bounds-out-1
bounds-out-1 c =
    let l = c.args.out.now in
    let n = c.args.setup.n in
    omega (arith, c.requires, length-set l 0 n)

pub bounds-out-2 : goal.bounds-out-2
bounds-out-2 c =
    let l = c.args.out.now in
    let setup = c.args.setup in
    omega (arith, c.requires, length-set l 0 setup.n, length-set (set l 0 setup.n) 1 setup.f)
