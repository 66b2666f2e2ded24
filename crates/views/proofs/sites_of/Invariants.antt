-- `sites_of` meets its contract.
-- Assumes nothing.
use Prim.Native.Nat.{◌≤◌}
use Rattle.site.specs.Sites.{sites, no_site}
use Rattle.views.specs.Views.{site_of}
use Rattle.views.proofs.Filled.{Filled}
use Rattle.views.proofs.sites_of.Given as goal

abbrev pub invariant-loop-p : goal.invariant-loop-p
invariant-loop-p l = (l.p ≤ sites) × Filled sites (site_of l.board) no_site l.all l.p
