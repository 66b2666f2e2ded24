-- `finish` meets its contract.
-- Assumes nothing.
use Rattle.thirds.proofs.OnThird.{finish_done}
use Rattle.thirds.proofs.third.finish.Goals as goal

pub returns : goal.returns
returns c =
    let a = c.args in
    let r = a.receipt in
    finish_done a.board.now r.posting r.from r.to a.tally.heard a.tally.has a.tally.union r.cut _ _ _ _ _ _ _ c.store.ensures
    c.add_to.ensures c.note_tally.ensures c.mark.ensures c.take_out.ensures
    c.empty.ensures c.carry.ensures
