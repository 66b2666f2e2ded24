-- `same_site` meets its contract. The loop's invariant: the first k accounts are the same.
-- Assumes nothing.
use mathlib.Core.Path.{sym, ap₂, ◌∙◌}
use Rattle.posting.specs.Kinds.{accounts}
use Rattle.statements.specs.Table.{same_account, same_site}
use Prim.Native.Nat.{◌-◌}
use mathlib.Core.Bool.{true}
use native.Mathlib.Omega.{arith}
use Rattle.sets.proofs.BelowLaws.{all_fails, all_none, all_more, all_end}
use borrow.Author.Rules.{rules}
use Rattle.statements.proofs.same.same_site.Invariants.{passes}
use Rattle.statements.proofs.same.same_site.Goals as goal

pub loop-k-init : goal.loop-k-init
loop-k-init c = (search rules, all_none (passes c.args.figures.now c.args.p c.args.q))

pub returns-then-not-same_account : goal.returns-then-not-same_account
unfolding same_site
returns-then-not-same_account c =
    let args = c.args in
    sym
    (all_fails (passes args.figures.now args.p args.q) accounts c.loop-k.k (search rules)
    (sym (c.same_account.ensures ∙ ap₂ same_account c.account_at-a.ensures c.account_at-b.ensures) ∙ c.if-not-same_account.true))

pub loop-k-preserved : goal.loop-k-preserved
loop-k-preserved c =
    let args = c.args in (
      search rules,
      all_more (passes args.figures.now args.p args.q) c.loop-k.k c.loop-k.invariant.1 (sym (c.same_account.ensures ∙ ap₂ same_account c.account_at-a.ensures c.account_at-b.ensures) ∙ c.if-not-same_account.false),
    )

pub returns : goal.returns
unfolding same_site
returns c = sym (all_end (passes c.args.figures.now c.args.p c.args.q) accounts c.loop-k.k (omega arith) c.loop-k.invariant.1)
