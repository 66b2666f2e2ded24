-- `sites_from` meets its contract.
-- Assumes nothing.
use Prim.Native.Nat.{◌-◌}
use Rattle.site.specs.Sites.{sites, no_site}
use Rattle.views.proofs.Filled.{filled_begin, filled_step, filled_all}
use borrow.Author.Rules.{rules}
use Rattle.image.proofs.reading.sites_from.Goals as goal

pub loop-p-init : goal.loop-p-init
loop-p-init c = (search rules, filled_begin sites _ no_site _)

pub loop-p-preserved : goal.loop-p-preserved
loop-p-preserved c =
    let at = c.loop-p in
    (search rules, filled_step sites _ no_site at.all at.p c.site_from.result c.loop-p-test.true c.site_from.ensures at.invariant.1)

pub returns : goal.returns
returns c =
    let at = c.loop-p in
    filled_all sites _ no_site at.all at.p c.loop-p-test.false at.invariant.1
