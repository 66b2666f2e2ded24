-- `copy` meets its contract.
-- Assumes nothing.
use Prim.Native.Nat.{◌-◌}
use mathlib.Core.Path.{refl, ap, ◌∙◌}
use native.Mathlib.Omega.{arith}
use lib.ListN.{length}
use Rattle.by_value.proofs.Filled.{copied_long, copied_more, copied_all}
use borrow.Author.Rules.{rules}
use Rattle.by_value.proofs.changed.copy.Goals as goal

pub loop-k-init : goal.loop-k-init
loop-k-init c = (search rules, refl)

pub bounds-out-k : goal.bounds-out-k
bounds-out-k c =
    let at = c.loop-k in
    omega (arith, ap length at.invariant.1, copied_long c.args.values.now c.args.out.now at.k at.invariant.0 c.requires)

pub loop-k-preserved : goal.loop-k-preserved
loop-k-preserved c =
    let at = c.loop-k in
    (search rules, copied_more c.args.values.now c.args.out.now at.k _ c.loop-k-test.true c.requires at.invariant.1)

pub shape_of-out : goal.shape_of-out
shape_of-out c =
    let at = c.loop-k in
    ap length at.invariant.1 ∙ copied_long c.args.values.now c.args.out.now at.k at.invariant.0 c.requires

pub returns : goal.returns
returns c =
    let at = c.loop-k in
    at.invariant.1 ∙ copied_all c.args.values.now c.args.out.now at.k at.invariant.0 c.loop-k-test.false
