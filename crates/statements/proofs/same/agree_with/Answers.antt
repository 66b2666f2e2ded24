-- `agree_with` meets its contract. The loop's invariant: site p agrees with the first q sites.
-- Assumes nothing.
use mathlib.Core.Path.{sym, ◌∙◌}
use Rattle.statements.specs.Table.{agree, agree_with}
use Prim.Native.Nat.{◌-◌}
use mathlib.Core.Bool.{true}
use native.Mathlib.Omega.{arith}
use Rattle.sets.proofs.BelowLaws.{all_fails, all_none, all_more, all_end}
use borrow.Author.Rules.{rules}
use Rattle.statements.proofs.same.agree_with.Goals as goal

pub loop-q-init : goal.loop-q-init
loop-q-init c = let args = c.args in (search rules, all_none (agree args.figures.now args.down args.p))

pub returns-then-not-agree : goal.returns-then-not-agree
unfolding agree_with
returns-then-not-agree c = let args = c.args in sym (all_fails (agree args.figures.now args.down args.p) args.n c.loop-q.q (search rules) (sym c.agree.ensures ∙ c.if-not-agree.true))

pub loop-q-preserved : goal.loop-q-preserved
loop-q-preserved c = let args = c.args in (search rules, all_more (agree args.figures.now args.down args.p) c.loop-q.q c.loop-q.invariant.1 (sym c.agree.ensures ∙ c.if-not-agree.false))

pub returns : goal.returns
unfolding agree_with
returns c = let args = c.args in sym (all_end (agree args.figures.now args.down args.p) args.n c.loop-q.q (omega arith) c.loop-q.invariant.1)
