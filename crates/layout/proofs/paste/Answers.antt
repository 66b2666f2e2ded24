-- `paste` meets its contract.
-- Assumes nothing.
use Prim.Native.Nat.{◌≤◌, ◌<◌, ◌-◌}
use mathlib.Core.Path.{◌≡◌, refl, ◌∙◌}
use native.Mathlib.Omega.{arith}
use lib.ListN.{length}
use Rattle.sets.specs.Sets.{capacity}
use Rattle.flight.proofs.Loads.{store_step, store_end}
use borrow.Author.Rules.{rules}
use Rattle.layout.proofs.paste.Goals as goal

pub loop-k-init : goal.loop-k-init
loop-k-init c = (search rules, refl)

pub loop-k-preserved : goal.loop-k-preserved
loop-k-preserved c =
    let at = c.loop-k in
    let values = c.args.values in
    let long : length values ≡ capacity = search rules in
    let more : at.k < length values = omega arith in
    (search rules, store_step _ values _ at.k _ more at.invariant.1)

pub returns : goal.returns
returns c =
    let at = c.loop-k in
    let values = c.args.values in
    let long : length values ≡ capacity = search rules in
    let all : length values ≤ at.k = omega arith in
    at.invariant.1 ∙ store_end _ values _ at.k all
