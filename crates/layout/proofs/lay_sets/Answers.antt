-- `lay_sets` meets its contract.
-- Assumes nothing.
use Rattle.layout.specs.Laying.{laying_sets}
use Rattle.layout.proofs.lay_sets.Goals as goal

pub returns : goal.returns
unfolding laying_sets
returns c =
    rw (
      c.index_rows.ensures,
      c.store.ensures,
      c.postings_sets.ensures,
      c.have_sets.ensures,
      c.sites_sets.ensures,
    )
