-- `lay_bytes` meets its contract.
-- Assumes nothing.
use Rattle.layout.specs.Laying.{laying_bytes}
use Rattle.layout.proofs.lay_bytes.Goals as goal

pub returns : goal.returns
unfolding laying_bytes
returns c =
    rw (c.sites_bytes.ensures, c.postings_bytes.ensures, c.paste.ensures)
