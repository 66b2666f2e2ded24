-- `block_ok` meets its contract. The loop's invariant: the first i cells pass.
-- Assumes nothing.
use mathlib.Core.Path.{sym, ◌∙◌}
use native.Mathlib.Omega.{arith}
use borrow.Author.Rules.{rules}
use Rattle.sets.proofs.BelowLaws.{all_fails, all_none, all_more, all_end}
use Rattle.posting.specs.Conflicts.{row}
use Rattle.cells.specs.Cells.{cell_sound_at, block, block_sound}
use Rattle.cells.proofs.Blocks.{cell_empty}
use Rattle.cells.proofs.block_ok.Invariants.{passes}
use Rattle.cells.proofs.block_ok.Goals as goal

pub loop-i-init : goal.loop-i-init
loop-i-init c = let args = c.args in (search rules, all_none (passes args.n args.table args.all args.carried.now args.masks.now args.k))

pub loop-i-preserved-then-mask-eq0 : goal.loop-i-preserved-then-mask-eq0
unfolding cell_sound_at
loop-i-preserved-then-mask-eq0 c =
    let at = c.loop-i in
    let args = c.args in
    (search rules, all_more (passes args.n args.table args.all args.carried.now args.masks.now args.k) at.i at.invariant.1 (cell_empty _ _ _ _ _ _ _ c.if-mask-eq0.true))

pub returns-then-not-cell_ok : goal.returns-then-not-cell_ok
unfolding block_sound cell_sound_at row
returns-then-not-cell_ok c =
    let at = c.loop-i in
    let args = c.args in
    sym (all_fails (passes args.n args.table args.all args.carried.now args.masks.now args.k) block at.i (search rules) (sym c.cell_ok.ensures ∙ c.if-not-cell_ok.true))

pub loop-i-preserved : goal.loop-i-preserved
unfolding cell_sound_at row
loop-i-preserved c =
    let at = c.loop-i in
    let args = c.args in
    (search rules, all_more (passes args.n args.table args.all args.carried.now args.masks.now args.k) at.i at.invariant.1 (sym c.cell_ok.ensures ∙ c.if-not-cell_ok.false))

pub returns : goal.returns
unfolding block_sound
returns c =
    let at = c.loop-i in
    let args = c.args in
    sym (all_end (passes args.n args.table args.all args.carried.now args.masks.now args.k) block at.i (omega arith) at.invariant.1)
