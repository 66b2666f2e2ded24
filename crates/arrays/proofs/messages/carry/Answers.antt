-- `carry` meets its contract. The loop's invariant: the first k words are stored.
-- Assumes nothing.
use Prim.Native.Nat.{◌≤◌, ◌<◌, ◌-◌}
use mathlib.Core.Path.{◌≡◌, refl, sym, ◌∙◌}
use native.Mathlib.Omega.{arith}
use lib.ListN.{length}
use Rattle.sets.specs.Sets.{words}
use Rattle.flight.proofs.CellLaws.{pair_in}
use Rattle.flight.proofs.Changes.{one_carried}
use Rattle.flight.proofs.Loads.{store_step, store_end}
use borrow.Author.Rules.{rules}
use Rattle.arrays.proofs.messages.carry.Goals as goal

pub loop-k-init : goal.loop-k-init
loop-k-init c = (search rules, refl)

pub loop-k-preserved : goal.loop-k-preserved
loop-k-preserved c =
    let at = c.loop-k in
    let load = c.args.load in
    let long : length load.words ≡ words = search rules in
    let more : at.k < length load.words = omega arith in
    (search rules, store_step _ load.words _ at.k _ more at.invariant.1)

pub returns : goal.returns
returns c =
    let at = c.loop-k in
    let a = c.args in
    let p = c.requires in
    let load = a.load in
    let long : length load.words ≡ words = search rules in
    let all : length load.words ≤ at.k = omega arith in
    at.invariant.1 ∙ store_end _ load.words _ at.k all
    ∙ one_carried _ a.m a.from _ (sym (pair_in a.m a.from p.0 p.1)) load (omega arith)
