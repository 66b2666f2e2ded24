-- `sites_from` meets its contract.
-- Assumes nothing.
use Prim.Native.Nat.{◌+◌, ◌*◌, ◌≤◌, ◌-◌}
use Rattle.site.specs.Sites.{sites, no_site}
use Rattle.image.specs.Layout.{sites_at, site_long}
use Rattle.image.specs.Image.{site_from}
use Rattle.views.proofs.Filled.{Filled}
use Rattle.image.proofs.reading.sites_from.Given as goal

abbrev pub invariant-loop-p : goal.invariant-loop-p
invariant-loop-p l = (l.p ≤ sites) × Filled sites (λ j. site_from l.image (sites_at + j * site_long)) no_site l.all l.p
