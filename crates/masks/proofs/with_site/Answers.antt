-- `with_site` meets its contract.
-- Assumes nothing.
use Rattle.masks.proofs.with_site.Goals as goal

pub returns : goal.returns
returns c = rw c.only_site.ensures
