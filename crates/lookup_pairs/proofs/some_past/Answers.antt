-- `some_past` meets its contract: of the first i pairs none has the limit or more.
-- Assumes nothing.
use Prim.Native.Nat.{◌-◌}
use mathlib.Core.Path.{◌≡◌, sym, ap, ◌∙◌}
use mathlib.Core.Bool.{false}
use native.Mathlib.Omega.{arith}
use borrow.Author.Rules.{rules}
use borrow.Author.Tests.{le-leb, lt-leb}
use Rattle.sets.specs.Below.{any_below}
use Rattle.sets.proofs.BelowLaws.{any_from}
use Rattle.lookup_pairs.specs.Pairs.{pair_count}
use Rattle.lookup_pairs.proofs.PairLaws.{any_none, any_next}
use Rattle.lookup_pairs.proofs.some_past.Invariants.{past}
use Rattle.lookup_pairs.proofs.some_past.Goals as goal

pub loop-i-init : goal.loop-i-init
loop-i-init c = (search rules, any_none (past c.args.pairs.now c.args.place c.args.limit))

pub returns-then-limit-pairs : goal.returns-then-limit-pairs
returns-then-limit-pairs c =
    let at = c.loop-i in
    let args = c.args in
    sym (any_from (past args.pairs.now args.place args.limit) (pair_count args.pairs.now) at.i c.loop-i-test.true (le-leb _ _ c.if-limit-pairs.true))

pub loop-i-preserved : goal.loop-i-preserved
loop-i-preserved c =
    let at = c.loop-i in
    let args = c.args in
    (search rules, any_next (past args.pairs.now args.place args.limit) at.i at.invariant.1 (lt-leb _ _ c.if-limit-pairs.false))

pub returns : goal.returns
returns c =
    let at = c.loop-i in
    let args = c.args in
    let end : at.i ≡ pair_count args.pairs.now = omega arith in
    sym (ap (any_below (past args.pairs.now args.place args.limit)) (sym end) ∙ at.invariant.1)
