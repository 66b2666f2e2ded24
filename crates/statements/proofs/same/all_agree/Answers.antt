-- `all_agree` meets its contract. The loop's invariant: the first p sites agree with all.
-- Assumes nothing.
use mathlib.Core.Path.{sym, ◌∙◌}
use Rattle.statements.specs.Table.{agree_with, all_agree}
use Prim.Native.Nat.{◌-◌}
use mathlib.Core.Bool.{true}
use native.Mathlib.Omega.{arith}
use Rattle.sets.proofs.BelowLaws.{all_fails, all_none, all_more, all_end}
use borrow.Author.Rules.{rules}
use Rattle.statements.proofs.same.all_agree.Goals as goal

pub loop-p-init : goal.loop-p-init
loop-p-init c = let args = c.args in (search rules, all_none (agree_with args.figures.now args.n args.down))

pub returns-then-not-agree_with : goal.returns-then-not-agree_with
unfolding all_agree
returns-then-not-agree_with c = let args = c.args in sym (all_fails (agree_with args.figures.now args.n args.down) args.n c.loop-p.p (search rules) (sym c.agree_with.ensures ∙ c.if-not-agree_with.true))

pub loop-p-preserved : goal.loop-p-preserved
loop-p-preserved c = let args = c.args in (search rules, all_more (agree_with args.figures.now args.n args.down) c.loop-p.p c.loop-p.invariant.1 (sym c.agree_with.ensures ∙ c.if-not-agree_with.false))

pub returns : goal.returns
unfolding all_agree
returns c = let args = c.args in sym (all_end (agree_with args.figures.now args.n args.down) args.n c.loop-p.p (omega arith) c.loop-p.invariant.1)
