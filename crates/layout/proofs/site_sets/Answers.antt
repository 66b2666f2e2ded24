-- `site_sets` meets its contract.
-- Assumes nothing.
use Rattle.layout.specs.Laying.{up_to, site_sets}
use Rattle.layout.proofs.site_sets.Goals as goal

pub returns : goal.returns
unfolding site_sets up_to
returns c =
    rw (c.store-5.ensures, c.store-4.ensures, c.store-3.ensures, c.store-2.ensures, c.store.ensures)
