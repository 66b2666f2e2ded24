-- `books::put` meets its contract.
-- Assumes nothing.
use native.Mathlib.Omega.{arith}
use lib.ListN.{length-set}
use mir.Syntax.{w64}
use mir.Val.{SFits}
use mir.Facts.{to_z-of_z}
use borrow.Author.Rules.{rules}
use Rattle.books.proofs.Blocks.{four_stores}
use Rattle.books.proofs.put.Goals as goal

pub bounds-out-at-2 : goal.bounds-out-at-2
bounds-out-at-2 c = simp length-set (omega arith)

pub bounds-out-at-3 : goal.bounds-out-at-3
bounds-out-at-3 c = simp length-set (omega arith)

pub bounds-out-at-4 : goal.bounds-out-at-4
bounds-out-at-4 c = simp length-set (omega arith)

pub returns : goal.returns
returns c =
    let position : SFits w64 c.args.s.position = search rules in
    let rate : SFits w64 c.args.s.rate = search rules in
    let called : SFits w64 c.args.s.called = search rules in
    let settled : SFits w64 c.args.s.settled = search rules in
    rw (to_z-of_z position, to_z-of_z rate, to_z-of_z called, to_z-of_z settled)
    (four_stores c.args.out.now c.args.at c.args.s.position c.args.s.rate c.args.s.called c.args.s.settled c.requires)
