-- `put_items` meets its contract.
-- Assumes nothing.
use Prim.Native.Nat.{ℕ}
use mathlib.Core.Path.{◌≡◌, ap, ◌∙◌}
use mathlib.Core.List.{◌++◌}
use lib.ListN.{length, take}
use lib.Seq.{take-length}
use native.Mathlib.Omega.{arith}
use Rattle.printer.specs.Output.{items, space, decimal}
use Rattle.printer.proofs.Writing.{nothing_put, then_put, put_as}
use Rattle.printer.proofs.Texts.{item_more}
use Rattle.printer.proofs.print.put_items.Goals as goal

pub loop-m-init : goal.loop-m-init
unfolding items
loop-m-init c = nothing_put c.args.at c.args.out.now

pub loop-m-preserved : goal.loop-m-preserved
loop-m-preserved c =
    let l = c.numbers_of-m-items.result.now in
    let i = c.loop-m.m-index in
    put_as (ap (λ (x : ℕ). items (take i l) ++ (space ++ decimal x)) c.wide.ensures ∙ item_more l i (omega arith)) (then_put c.loop-m.invariant c.put_item-place.ensures)

pub returns : goal.returns
returns c =
    let l = c.numbers_of-m-items.result.now in
    let e : c.loop-m.m-index ≡ length l = omega arith in
    put_as (rw (e, take-length, c.numbers_of-m-items.ensures)) c.loop-m.invariant
