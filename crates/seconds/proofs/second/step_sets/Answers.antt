-- `step_sets` meets its contract.
-- Assumes nothing.
use Rattle.flat.specs.Flat.{stepping, holding}
use Rattle.seconds.proofs.second.step_sets.Goals as goal

pub returns : goal.returns
unfolding stepping holding
returns c =
    record { value = rw (c.with_if-held.ensures, c.load-kept.ensures, c.joins_held-joins.ensures, c.with-seen.ensures, c.load-old.ensures); words_after = rw (c.add_to.ensures, c.store-2.ensures, c.store.ensures, c.with-seen.ensures, c.load-old.ensures) }
