-- `put_words` meets its contract.
-- Assumes nothing.
use Prim.Native.Nat.{◌-◌}
use mathlib.Core.Path.{refl, ◌∙◌}
use Rattle.flight.proofs.Loads.{store_step, store_end}
use borrow.Author.Rules.{rules}
use Rattle.image.proofs.writing.put_words.Goals as goal

pub loop-k-init : goal.loop-k-init
loop-k-init c = (search rules, refl)

pub loop-k-preserved : goal.loop-k-preserved
loop-k-preserved c =
    let at = c.loop-k in
    let values = c.args.values.now in
    (search rules, store_step _ values _ at.k _ c.loop-k-test.true at.invariant.1)

pub returns : goal.returns
returns c =
    let at = c.loop-k in
    let values = c.args.values.now in
    at.invariant.1 ∙ store_end _ values _ at.k c.loop-k-test.false
