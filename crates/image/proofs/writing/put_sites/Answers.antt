-- `put_sites` meets its contract.
-- Assumes nothing.
use Prim.Native.Nat.{◌-◌}
use Rattle.site.specs.Sites.{sites, no_site}
use Rattle.image.specs.Layout.{sites_at, site_long}
use Rattle.image.specs.Image.{site_numbers}
use Rattle.image.proofs.Rows.{stored_none, stored_more, stored_end}
use borrow.Author.Rules.{rules}
use Rattle.image.proofs.writing.put_sites.Goals as goal

pub loop-p-init : goal.loop-p-init
loop-p-init c = (search rules, stored_none site_numbers sites_at site_long c.args.all no_site _)

pub loop-p-preserved : goal.loop-p-preserved
loop-p-preserved c =
    let at = c.loop-p in
    let args = c.args in
    (search rules, stored_more site_numbers sites_at site_long args.all no_site args.out.now at.out _ at.p at.invariant.1 c.put_site.ensures)

pub returns : goal.returns
returns c =
    let at = c.loop-p in
    let args = c.args in
    stored_end site_numbers sites_at site_long args.all no_site args.out.now at.out at.p sites at.invariant.1 at.invariant.0 c.loop-p-test.false
