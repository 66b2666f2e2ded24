-- `posting_sets` meets its contract.
-- Assumes nothing.
use Rattle.layout.specs.Laying.{up_to, posting_sets}
use Rattle.layout.proofs.posting_sets.Goals as goal

pub returns : goal.returns
unfolding posting_sets up_to
returns c =
    rw (c.store-2.ensures, c.store.ensures)
