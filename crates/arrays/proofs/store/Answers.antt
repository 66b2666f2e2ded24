-- `store` meets its contract.
-- Assumes nothing.
use Prim.Native.Nat.{◌≤◌, ◌<◌, ◌-◌}
use mathlib.Core.Path.{◌≡◌, refl, ◌∙◌}
use native.Mathlib.Omega.{arith}
use lib.ListN.{length}
use borrow.Author.Rules.{rules}
use Rattle.sets.specs.Sets.{words}
use Rattle.arrays.specs.Arrays.{storing}
use Rattle.flight.proofs.Loads.{store_step, store_end}
use Rattle.arrays.proofs.store.Goals as goal

pub loop-k-init : goal.loop-k-init
loop-k-init c = (search rules, refl)

pub loop-k-preserved : goal.loop-k-preserved
loop-k-preserved c =
    let at = c.loop-k in
    let s = c.args.s in
    let long : length s.words ≡ words = search rules in
    let more : at.k < length s.words = omega arith in
    (search rules, store_step _ s.words _ at.k _ more at.invariant.1)

pub returns : goal.returns
unfolding storing
returns c =
    let at = c.loop-k in
    let s = c.args.s in
    let long : length s.words ≡ words = search rules in
    let all : length s.words ≤ at.k = omega arith in
    at.invariant.1 ∙ store_end _ s.words _ at.k all
