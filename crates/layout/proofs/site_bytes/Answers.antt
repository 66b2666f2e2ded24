-- `site_bytes` meets its contract.
-- Assumes nothing.
use Rattle.layout.specs.Laying.{up_to, site_bytes}
use Rattle.layout.proofs.site_bytes.Goals as goal

pub returns : goal.returns
unfolding site_bytes up_to
returns c =
    rw (c.paste-3.ensures, c.paste-2.ensures, c.paste.ensures)
