-- `sites_to` meets its contract.
-- Assumes nothing.
use mathlib.Core.Path.{◌∙◌}
use Rattle.steps.proofs.ByCase.{cut_sites}
use Rattle.steps.proofs.cuts.sites_to.Goals as goal

pub returns-in-After : goal.returns-in-After
returns-in-After c = c.first_sites.ensures ∙ cut_sites _ _ _ c.in-After.is
