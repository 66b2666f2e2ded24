-- `carry_to` meets its contract.
-- Assumes nothing.
use borrow.Author.Tests.{eq-eqb, ne_eqb}
use Rattle.flat.specs.Flat.{carrying_to}
use Rattle.seconds.proofs.second.carry_to.Goals as goal

pub returns-then-receivers-eq0 : goal.returns-then-receivers-eq0
unfolding carrying_to
returns-then-receivers-eq0 c = rw (eq-eqb c.args.receivers 0 c.if-receivers-eq0.true)

pub returns : goal.returns
unfolding carrying_to
returns c = rw (ne_eqb c.args.receivers 0 c.if-receivers-eq0.false) c.carry.ensures
