-- `enter_all` meets its contract: after n rows, m is in these.
-- Assumes nothing.
use Prim.Native.Nat.{◌-◌}
use mathlib.Core.Path.{◌≡◌}
use native.Mathlib.Omega.{arith}
use native.Mathlib.Numerals.{add-one}
use Rattle.arrays.specs.Layout.{index_rows}
use Rattle.index.specs.Index.{entered_to}
use borrow.Author.Rules.{rules}
use Rattle.index.proofs.enter_all.Goals as goal

pub loop-row-init : goal.loop-row-init
unfolding entered_to
loop-row-init c = search rules

pub loop-row-preserved : goal.loop-row-preserved
unfolding entered_to
loop-row-preserved c =
    let at = c.loop-row in
    (search rules, rw (add-one, c.add_to.ensures, c.slot_of-slot.ensures, at.invariant.1))

pub returns : goal.returns
returns c =
    let at = c.loop-row in
    let last : at.row ≡ index_rows = omega arith in
    rw (at.invariant.1, last)
