-- `enter_pool` meets its contract.
-- Assumes nothing.
use Rattle.thirds.proofs.OnThird.{stays_out, comes_in}
use Rattle.thirds.proofs.third.enter_pool.Goals as goal

pub returns-then-receivers-eq0 : goal.returns-then-receivers-eq0
returns-then-receivers-eq0 c =
    let a = c.args in
    stays_out a.m a.receivers a.union a.words.now c.if-receivers-eq0.true

pub returns : goal.returns
returns c =
    let a = c.args in
    comes_in a.m a.receivers a.union a.words.now _ _ c.if-receivers-eq0.false c.add_to.ensures c.store.ensures
