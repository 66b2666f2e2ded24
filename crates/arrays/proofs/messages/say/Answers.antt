-- `say` meets its contract.
-- Assumes nothing.
use mathlib.Core.Path.{refl, sym}
use native.Mathlib.Omega.{arith}
use lib.Bits.{and_le_l}
use Rattle.flight.proofs.CellLaws.{pair_in}
use Rattle.flight.proofs.Changes.{one_good, one_bad}
use Rattle.arrays.proofs.messages.say.Goals as goal

pub returns-then-so : goal.returns-then-so
returns-then-so c =
    let a = c.args in
    let p = c.requires in
    rw c.if-so.true (one_good a.good.now 1 a.m a.from _ (sym (pair_in a.m a.from p.0 p.1)) a.receivers refl (omega arith))

pub overflow_sub-good : goal.overflow_sub-good
overflow_sub-good c = and_le_l _ _

pub returns : goal.returns
returns c =
    let a = c.args in
    let p = c.requires in
    rw c.if-so.false (one_bad a.good.now 1 a.m a.from _ (sym (pair_in a.m a.from p.0 p.1)) a.receivers refl (omega arith))
