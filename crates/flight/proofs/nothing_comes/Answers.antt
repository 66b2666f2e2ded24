-- `nothing_comes` meets its contract. The loop's invariant: the answer is that nothing was joined so far, and nothing comes from k on.
-- Assumes nothing.
use Prim.Native.Nat.{◌-◌}
use mathlib.Core.Path.{refl, sym, ap, ◌∙◌}
use mathlib.Core.Bool.{Bool, ◌&&◌, and-true}
use lib.Dec.{eqb}
use borrow.Author.Rules.{rules}
use Rattle.flight.proofs.SearchLaws.{comes_step, comes_end}
use Rattle.flight.proofs.Joined.{none_more}
use Rattle.flight.proofs.nothing_comes.Goals as goal

pub loop-k-init : goal.loop-k-init
loop-k-init c = (search rules, refl)

pub loop-k-preserved : goal.loop-k-preserved
loop-k-preserved c =
    let at = c.loop-k in
    let args = c.args in
    let step = comes_step args.masks.now args.up at.k c.loop-k-test.true in (
      search rules,
      at.invariant.1 ∙ ap (λ (b : Bool). eqb at.any 0 && b) step ∙ none_more at.any _ _,
    )

pub returns : goal.returns
returns c =
    let at = c.loop-k in
    let args = c.args in
    let end = comes_end args.masks.now args.up at.k c.loop-k-test.false in
    sym (at.invariant.1 ∙ ap (λ (b : Bool). eqb at.any 0 && b) end ∙ and-true (eqb at.any 0))
