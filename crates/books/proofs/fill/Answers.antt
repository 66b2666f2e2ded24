-- `books::fill` meets its contract: after k accounts their numbers stand before what is left of the slice.
-- Assumes nothing.
use mathlib.Core.Path.{◌≡◌, refl, ap, ◌∙◌}
use mathlib.Core.List.{◌++◌}
use Prim.Native.Nat.{ℕ, ◌*◌}
use native.Mathlib.Omega.{arith}
use lib.ListN.{drop}
use Rattle.books.specs.Books.{numbers_to, figures_on}
use Rattle.books.proofs.Blocks.{next_account}
use Rattle.books.proofs.fill.Goals as goal

pub loop-k-init : goal.loop-k-init
unfolding numbers_to
loop-k-init c = (refl, refl)

pub loop-k-preserved : goal.loop-k-preserved
loop-k-preserved c = (
  c.put.auto.out ∙ c.loop-k.invariant.0,
  c.put.ensures
      ∙ rw c.loop-k.invariant.1 (next_account c.loop-k.k (figures_on c.args.sheet) c.args.out.now),
)

pub shape_of-out : goal.shape_of-out
shape_of-out c = c.loop-k.invariant.0

pub returns : goal.returns
returns c =
    let e : c.loop-k.k ≡ 16 = omega arith in
    c.loop-k.invariant.1 ∙ ap (λ (k : ℕ). numbers_to k (figures_on c.args.sheet) ++ drop (4 * k) c.args.out.now) e
