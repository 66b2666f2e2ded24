-- `record_set` meets its contract. The loop's invariant: the set is that of the first i numbers.
-- Assumes nothing.
use Prim.Native.Nat.{◌-◌}
use mathlib.Core.Path.{◌≡◌, ◌∙◌}
use native.Mathlib.Omega.{arith}
use native.Mathlib.Numerals.{add-one}
use lib.ListN.{length}
use borrow.Author.Rules.{rules}
use Rattle.sets.specs.Sets.{capacity}
use Rattle.soundness.proofs.Turns.{first_of, first_all}
use Rattle.layout.proofs.record_set.Goals as goal

pub loop-i-init : goal.loop-i-init
unfolding first_of
loop-i-init c = (search rules, search rules, c.empty-all.ensures)

pub returns-then-count-i : goal.returns-then-count-i
returns-then-count-i c =
    let at = c.loop-i in
    let delivered = c.args.delivered in
    let long : length delivered.numbers ≡ capacity = search rules in
    at.invariant.2 ∙ first_all delivered at.i long (omega arith) at.invariant.1 at.invariant.0

pub loop-i-preserved : goal.loop-i-preserved
unfolding first_of
loop-i-preserved c = (search rules, search rules, rw (add-one, c.with-all.ensures, c.loop-i.invariant.2))

pub returns : goal.returns
returns c =
    let at = c.loop-i in
    let delivered = c.args.delivered in
    let long : length delivered.numbers ≡ capacity = search rules in
    at.invariant.2 ∙ first_all delivered at.i long (omega arith) at.invariant.1 at.invariant.0
