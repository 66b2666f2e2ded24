-- `logged_set` meets its contract. The loop's invariant: the set is that of the first i numbers.
-- Assumes nothing.
use mathlib.Core.Path.{◌≡◌, ◌∙◌}
use native.Mathlib.Omega.{arith}
use native.Mathlib.Numerals.{add-one}
use lib.ListN.{length}
use borrow.Author.Rules.{rules}
use Rattle.sets.specs.Sets.{capacity}
use Rattle.soundness.proofs.Turns.{first_of, first_all}
use Rattle.soundness.proofs.pool.logged_set.Goals as goal

pub loop-i-init : goal.loop-i-init
unfolding first_of
loop-i-init c = (search rules, c.empty-logged.ensures)

pub returns-then-log-i : goal.returns-then-log-i
returns-then-log-i c =
    let at = c.loop-i in
    let log = c.args.log in
    let long : length log.numbers ≡ capacity = search rules in
    at.invariant.1 ∙ first_all log at.i long (omega arith) at.invariant.0 (omega arith)

pub loop-i-preserved : goal.loop-i-preserved
unfolding first_of
loop-i-preserved c = (search rules, rw (add-one, c.with-logged.ensures, c.from.ensures, c.loop-i.invariant.1))

pub returns : goal.returns
returns c =
    let at = c.loop-i in
    let log = c.args.log in
    let long : length log.numbers ≡ capacity = search rules in
    at.invariant.1 ∙ first_all log at.i long (omega arith) at.invariant.0 (omega arith)
