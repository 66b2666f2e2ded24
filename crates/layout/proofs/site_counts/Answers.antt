-- `site_counts` meets its contract.
-- Assumes nothing.
use mathlib.Core.Path.{refl}
use Rattle.layout.specs.Laying.{up_to, site_counts}
use Rattle.layout.proofs.site_counts.Goals as goal

pub returns : goal.returns
unfolding site_counts up_to
returns c = refl
