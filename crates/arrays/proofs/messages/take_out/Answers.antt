-- `take_out` meets its contract.
-- Assumes nothing.
use mathlib.Core.Path.{sym}
use native.Mathlib.Omega.{arith}
use lib.Bits.{and_le_l}
use Rattle.sets.proofs.MaskLaws.{one_shl}
use Rattle.flight.proofs.CellLaws.{cell_in}
use Rattle.flight.proofs.Changes.{one_taken}
use Rattle.arrays.proofs.messages.take_out.Goals as goal

pub overflow_sub-masks : goal.overflow_sub-masks
overflow_sub-masks c = and_le_l _ _

pub returns : goal.returns
returns c =
    let a = c.args in
    let p = c.requires in
    rw (one_shl 8 a.to (omega arith))
    (one_taken a.masks.now a.form a.m a.from _ (sym (cell_in a.form a.m a.from p.0 p.1 p.2)) a.to (omega arith))
