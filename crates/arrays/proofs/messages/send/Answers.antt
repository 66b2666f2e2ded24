-- `send` meets its contract.
-- Assumes nothing.
use mathlib.Core.Path.{sym}
use native.Mathlib.Omega.{arith}
use Rattle.flight.proofs.CellLaws.{cell_in}
use Rattle.flight.proofs.Changes.{one_sent}
use Rattle.arrays.proofs.messages.send.Goals as goal

pub returns : goal.returns
returns c =
    let a = c.args in
    let p = c.requires in
    one_sent a.masks.now a.form a.m a.from _ (sym (cell_in a.form a.m a.from p.0 p.1 p.2)) a.receivers (omega arith)
