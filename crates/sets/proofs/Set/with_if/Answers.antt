-- `with_if` meets its contract.
-- Assumes nothing.
use Rattle.sets.specs.Words.{insert_if}
use Rattle.sets.proofs.Set.with_if.Goals as goal

pub returns-then-so : goal.returns-then-so
unfolding insert_if
returns-then-so c = rw (c.if-so.true, c.with.ensures)

pub returns-else-so : goal.returns-else-so
unfolding insert_if
returns-else-so c = rw c.if-so.false
