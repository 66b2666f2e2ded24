-- `masks_ok` meets its contract. The loop's invariant: the first m masks pass.
-- Assumes nothing.
use mathlib.Core.Path.{sym, ◌∙◌}
use native.Mathlib.Omega.{arith}
use borrow.Author.Rules.{rules}
use Rattle.sets.proofs.BelowLaws.{all_fails, all_none, all_more, all_end}
use Rattle.sets.specs.Sets.{capacity}
use Rattle.soundness.specs.Parts.{masks_sound}
use Rattle.soundness.proofs.sites.masks_ok.Invariants.{passes}
use Rattle.soundness.proofs.sites.masks_ok.Goals as goal

pub loop-m-init : goal.loop-m-init
loop-m-init c = all_none (passes c.args.n c.args.count c.args.masks.now)

pub returns-then-not-mask_ok : goal.returns-then-not-mask_ok
unfolding masks_sound
returns-then-not-mask_ok c =
    let at = c.loop-m in
    let args = c.args in
    sym
    (all_fails (passes args.n args.count args.masks.now) capacity at.m (search rules)
    (sym c.mask_ok.ensures ∙ c.if-not-mask_ok.true))

pub loop-m-preserved : goal.loop-m-preserved
loop-m-preserved c =
    let at = c.loop-m in
    let args = c.args in all_more (passes args.n args.count args.masks.now) at.m at.invariant (sym c.mask_ok.ensures ∙ c.if-not-mask_ok.false)

pub returns : goal.returns
unfolding masks_sound
returns c =
    let at = c.loop-m in
    let args = c.args in
    sym (all_end (passes args.n args.count args.masks.now) capacity at.m (omega arith) at.invariant)
