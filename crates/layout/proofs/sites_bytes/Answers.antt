-- `sites_bytes` meets its contract.
-- Assumes nothing.
use Prim.Native.Nat.{◌-◌}
use Rattle.site.specs.Sites.{sites}
use Rattle.layout.proofs.Grid.{up_none, up_more, up_end}
use borrow.Author.Rules.{rules}
use Rattle.layout.proofs.sites_bytes.Goals as goal

pub loop-p-init : goal.loop-p-init
loop-p-init c = (search rules, up_none _ _)

pub loop-p-preserved : goal.loop-p-preserved
loop-p-preserved c =
    let at = c.loop-p in
    (search rules, up_more _ _ at.bytes _ at.p at.invariant.1 c.site_bytes.ensures)

pub returns : goal.returns
returns c =
    let at = c.loop-p in
    up_end _ _ at.bytes at.p sites at.invariant.1 at.invariant.0 c.loop-p-test.false
