-- `copy_line` meets its contract.
-- Assumes nothing.
use Prim.Native.Nat.{◌+◌}
use native.Mathlib.Omega.{arith}
use lib.IntN.{pos}
use lib.ListN.{length-set, get_or}
use mir.Syntax.{w64}
use mir.Val.{SFits}
use mir.Facts.{to_z-of_z}
use Rattle.books.proofs.Blocks.{four_stores}
use Rattle.lookup_pairs.proofs.PairLaws.{four_at}
use Rattle.lookup_pairs.proofs.copy_line.Goals as goal

pub bounds-out-at-2 : goal.bounds-out-at-2
bounds-out-at-2 c = simp length-set (omega arith)

pub bounds-out-at-3 : goal.bounds-out-at-3
bounds-out-at-3 c = simp length-set (omega arith)

pub bounds-out-at-4 : goal.bounds-out-at-4
bounds-out-at-4 c = simp length-set (omega arith)

pub returns : goal.returns
returns c =
    let l = c.args.figures.now in
    let from = c.args.from in
    let position : SFits w64 (get_or l from (pos 0)) = record { sfits = c.position-1.given } in
    let rate : SFits w64 (get_or l (from + 1) (pos 0)) = record { sfits = c.rate-1.given } in
    let called : SFits w64 (get_or l (from + 2) (pos 0)) = record { sfits = c.called-1.given } in
    let settled : SFits w64 (get_or l (from + 3) (pos 0)) = record { sfits = c.settled-1.given } in
    rw (to_z-of_z position, to_z-of_z rate, to_z-of_z called, to_z-of_z settled, four_at l from c.requires.0)
    (four_stores c.args.out.now c.args.at (get_or l from (pos 0)) (get_or l (from + 1) (pos 0)) (get_or l (from + 2) (pos 0)) (get_or l (from + 3) (pos 0)) c.requires.1)
