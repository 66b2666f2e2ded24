-- `has_none` meets its contract. The loop's invariant: the first k accounts have no figures.
-- Assumes nothing.
use mathlib.Core.Path.{sym, ap, ◌∙◌}
use Rattle.posting.specs.Kinds.{accounts}
use Rattle.statements.specs.Table.{is_blank, has_none}
use Prim.Native.Nat.{◌-◌}
use mathlib.Core.Bool.{true}
use native.Mathlib.Omega.{arith}
use Rattle.sets.proofs.BelowLaws.{all_fails, all_none, all_more, all_end}
use borrow.Author.Rules.{rules}
use Rattle.statements.proofs.same.has_none.Invariants.{passes}
use Rattle.statements.proofs.same.has_none.Goals as goal

pub loop-k-init : goal.loop-k-init
loop-k-init c = (search rules, all_none (passes c.args.figures.now c.args.p))

pub returns-then-not-is_blank : goal.returns-then-not-is_blank
unfolding has_none
returns-then-not-is_blank c =
    let args = c.args in
    sym
    (all_fails (passes args.figures.now args.p) accounts c.loop-k.k (search rules)
    (sym (c.is_blank.ensures ∙ ap is_blank c.account_at-a.ensures) ∙ c.if-not-is_blank.true))

pub loop-k-preserved : goal.loop-k-preserved
loop-k-preserved c =
    let args = c.args in (
      search rules,
      all_more (passes args.figures.now args.p) c.loop-k.k c.loop-k.invariant.1 (sym (c.is_blank.ensures ∙ ap is_blank c.account_at-a.ensures) ∙ c.if-not-is_blank.false),
    )

pub returns : goal.returns
unfolding has_none
returns c = sym (all_end (passes c.args.figures.now c.args.p) accounts c.loop-k.k (omega arith) c.loop-k.invariant.1)
