-- `tallies_ok` meets its contract. The loop's invariant: the first m tallies pass.
-- Assumes nothing.
use mathlib.Core.Path.{sym, ◌∙◌}
use native.Mathlib.Omega.{arith}
use borrow.Author.Rules.{rules}
use Rattle.sets.proofs.BelowLaws.{all_fails, all_none, all_more, all_end}
use Rattle.sets.specs.Sets.{capacity}
use Rattle.soundness.specs.Parts.{tallies_sound}
use Rattle.soundness.proofs.sites.tallies_ok.Invariants.{passes}
use Rattle.soundness.proofs.sites.tallies_ok.Goals as goal

pub loop-m-init : goal.loop-m-init
loop-m-init c = all_none (passes c.args.n c.args.count c.args.all c.args.tallies)

pub returns-then-not-tally_ok : goal.returns-then-not-tally_ok
unfolding tallies_sound
returns-then-not-tally_ok c =
    let at = c.loop-m in
    let args = c.args in
    sym
    (all_fails (passes args.n args.count args.all args.tallies) capacity at.m (search rules)
    (sym c.tally_ok.ensures ∙ c.if-not-tally_ok.true))

pub loop-m-preserved : goal.loop-m-preserved
loop-m-preserved c =
    let at = c.loop-m in
    let args = c.args in all_more (passes args.n args.count args.all args.tallies) at.m at.invariant (sym c.tally_ok.ensures ∙ c.if-not-tally_ok.false)

pub returns : goal.returns
unfolding tallies_sound
returns c =
    let at = c.loop-m in
    let args = c.args in
    sym (all_end (passes args.n args.count args.all args.tallies) capacity at.m (omega arith) at.invariant)
