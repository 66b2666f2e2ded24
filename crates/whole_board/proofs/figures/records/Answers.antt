-- `records` meets its contract. The loop's invariant: the first s records are copied.
-- Assumes nothing.
use Prim.Native.Nat.{◌-◌}
use native.Mathlib.Omega.{arith}
use borrow.Author.Rules.{rules}
use Rattle.site.specs.Sites.{sites}
use Rattle.machine.proofs.Typed.{is_board}
use Rattle.whole_board.proofs.Showing.{copied_none, copied_more, copied_all}
use Rattle.whole_board.proofs.figures.records.Goals as goal

pub loop-s-init : goal.loop-s-init
loop-s-init c = (search rules, copied_none c.args.board.sites sites c.empty-empty.result)

pub loop-s-preserved : goal.loop-s-preserved
loop-s-preserved c =
    let at = c.loop-s in
    let b = c.args.board in
    (search rules, copied_more b.sites sites (is_board b _ c.well_formed.0).sites_long at.records.sites at.s (search rules) at.invariant.1)

pub returns : goal.returns
returns c =
    let at = c.loop-s in
    let b = c.args.board in
    copied_all b.sites sites (is_board b _ c.well_formed.0).sites_long at.records.sites at.s (omega arith) at.invariant.1
