-- `receivers` meets its contract. The loop's invariant: the masks of the first i cells are joined.
-- Assumes nothing.
use Prim.Native.Nat.{ℕ, ◌+◌}
use mathlib.Core.Path.{◌≡◌, refl, ap, ◌∙◌}
use native.Mathlib.Omega.{arith}
use lib.ListN.{get_or}
use lib.Bits.{bit_or}
use borrow.Author.Rules.{rules}
use Rattle.cells.specs.Cells.{block, joined}
use Rattle.cells.proofs.Blocks.{joined_more}
use Rattle.cells.proofs.receivers.Goals as goal

pub loop-i-init : goal.loop-i-init
unfolding joined
loop-i-init c = (search rules, refl)

pub loop-i-preserved : goal.loop-i-preserved
loop-i-preserved c =
    let at = c.loop-i in
    let args = c.args in (
      search rules,
      ap (λ (w : ℕ). bit_or w (get_or args.masks.now (args.k + at.i) 0)) at.invariant.1 ∙ joined_more args.masks.now args.k at.i,
    )

pub returns : goal.returns
returns c =
    let at = c.loop-i in
    let args = c.args in
    let end : at.i ≡ block = omega arith in
    at.invariant.1 ∙ ap (joined args.masks.now args.k) end
