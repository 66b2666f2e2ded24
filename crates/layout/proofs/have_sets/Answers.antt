-- `have_sets` meets its contract.
-- Assumes nothing.
use Prim.Native.Nat.{◌-◌}
use mathlib.Core.Path.{ap, ◌∙◌}
use Rattle.arrays.specs.Layout.{have_of}
use Rattle.arrays.specs.Arrays.{storing}
use Rattle.site.specs.Sites.{sites}
use Rattle.layout.proofs.Grid.{up_none, up_more, up_end}
use borrow.Author.Rules.{rules}
use Rattle.layout.proofs.have_sets.Goals as goal

pub loop-p-init : goal.loop-p-init
loop-p-init c = (search rules, up_none _ _)

pub loop-p-preserved : goal.loop-p-preserved
loop-p-preserved c =
    let at = c.loop-p in
    (search rules, up_more _ _ at.words _ at.p at.invariant.1 (c.store.ensures ∙ ap (storing at.words (have_of at.p)) c.record_set-have.ensures))

pub returns : goal.returns
returns c =
    let at = c.loop-p in
    up_end _ _ at.words at.p sites at.invariant.1 at.invariant.0 c.loop-p-test.false
