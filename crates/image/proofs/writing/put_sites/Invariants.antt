-- `put_sites` meets its contract.
-- Assumes nothing.
use Prim.Native.Nat.{◌≤◌, ◌-◌}
use mathlib.Core.Path.{◌≡◌}
use Rattle.site.specs.Sites.{sites, no_site}
use Rattle.image.specs.Layout.{sites_at, site_long}
use Rattle.image.specs.Image.{site_numbers}
use Rattle.image.specs.Stored.{stored}
use Rattle.image.proofs.writing.put_sites.Given as goal

abbrev pub invariant-loop-p : goal.invariant-loop-p
invariant-loop-p l = (l.p ≤ sites) × (l.out ≡ stored site_numbers sites_at site_long l.all no_site l.initial.out l.p)
