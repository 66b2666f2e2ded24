-- `cells_ok` meets its contract. The loop's invariant: the cells of the first j blocks pass.
-- Assumes nothing.
use Prim.Native.Nat.{◌+◌, ◌*◌}
use mathlib.Core.Path.{◌≡◌, sym, ap, ◌∙◌}
use native.Mathlib.Omega.{arith}
use borrow.Author.Rules.{rules}
use Rattle.sets.specs.Below.{all_below}
use Rattle.flight.specs.Flights.{cells}
use Rattle.cells.specs.Cells.{cell_sound_at, block, cells_sound}
use Rattle.sets.proofs.BelowLaws.{all_none, all_end}
use Rattle.cells.proofs.Blocks.{block_empty, block_more, block_fails}
use Rattle.cells.proofs.cells_ok.Goals as goal

pub loop-j-init : goal.loop-j-init
loop-j-init c = let args = c.args in (search rules, all_none (cell_sound_at args.n args.table args.all args.carried.now args.masks.now))

pub loop-j-preserved-then-receivers-eq0 : goal.loop-j-preserved-then-receivers-eq0
loop-j-preserved-then-receivers-eq0 c =
    let at = c.loop-j in
    let args = c.args in
    let next : block * at.j + block ≡ block * (at.j + 1) = omega arith in (
      search rules,
      ap (all_below (cell_sound_at args.n args.table args.all args.carried.now args.masks.now)) (sym next)
          ∙ block_more args.n args.table args.all args.carried.now args.masks.now (block * at.j) at.invariant.1 (block_empty args.n args.table args.all args.carried.now args.masks.now (block * at.j) (sym c.receivers.ensures ∙ c.if-receivers-eq0.true)),
    )

pub returns-then-not-block_ok : goal.returns-then-not-block_ok
returns-then-not-block_ok c =
    let at = c.loop-j in
    let args = c.args in
    sym (block_fails args.n args.table args.all args.carried.now args.masks.now (block * at.j) (search rules) (sym c.block_ok.ensures ∙ c.if-not-block_ok.true))

pub loop-j-preserved : goal.loop-j-preserved
loop-j-preserved c =
    let at = c.loop-j in
    let args = c.args in
    let next : block * at.j + block ≡ block * (at.j + 1) = omega arith in (
      search rules,
      ap (all_below (cell_sound_at args.n args.table args.all args.carried.now args.masks.now)) (sym next)
          ∙ block_more args.n args.table args.all args.carried.now args.masks.now (block * at.j) at.invariant.1 (sym c.block_ok.ensures ∙ c.if-not-block_ok.false),
    )

pub returns : goal.returns
unfolding cells_sound
returns c =
    let at = c.loop-j in
    let args = c.args in
    sym (all_end (cell_sound_at args.n args.table args.all args.carried.now args.masks.now) cells (block * at.j) (omega arith) at.invariant.1)
