-- `deliver` meets its contract.
-- Assumes nothing.
use Prim.Native.Nat.{◌<◌, ◌≤◌}
use mathlib.Core.Path.{sym, ap, ◌∙◌}
use native.Mathlib.Omega.{arith}
use Rattle.sets.specs.Sets.{capacity}
use Rattle.delivery.specs.Delivery.{with_laid, recorded}
use Rattle.delivery.proofs.Walk.{delivered_known, delivered_full, delivered_new}
use Rattle.delivery.proofs.deliver.Goals as goal

pub returns-then-has_in : goal.returns-then-has_in
returns-then-has_in c =
    let b = c.args.board.now in
    ap (with_laid b) (delivered_known b.sets b.counts b.bytes c.args.p c.args.m (sym c.has_in.ensures ∙ c.if-has_in.true))

pub returns-then-count-ge-POSTINGS : goal.returns-then-count-ge-POSTINGS
returns-then-count-ge-POSTINGS c =
    let b = c.args.board.now in
    let full : capacity ≤ recorded b.counts c.args.p = omega arith in
    ap (with_laid b) (delivered_full b.sets b.counts b.bytes c.args.p c.args.m (sym c.has_in.ensures ∙ c.if-has_in.false) full)

pub returns : goal.returns
returns c =
    let b = c.args.board.now in
    let room : recorded b.counts c.args.p < capacity = omega arith in
    ap (with_laid b)
    (delivered_new b.sets b.counts b.bytes c.args.p c.args.m _ (sym c.has_in.ensures ∙ c.if-has_in.false) room c.add_to.ensures)
