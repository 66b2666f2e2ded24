-- `books::books_all` meets its contract: after s sites their numbers stand before what is left of the slice.
-- Assumes nothing.
use mathlib.Core.Path.{◌≡◌, refl, ap, ◌∙◌}
use mathlib.Core.List.{◌++◌}
use Prim.Native.Nat.{ℕ, ◌*◌, ◌-◌}
use native.Mathlib.Omega.{arith}
use lib.ListN.{length, drop, length-drop}
use borrow.Author.Rules.{rules}
use borrow.Rule.Slice.PartMut.{same_len_mid}
use Rattle.books.specs.Books.{figures_on, numbers_of_sites}
use Rattle.books.proofs.Blocks.{part_all, part_back, next_site}
use Rattle.books.proofs.books_all.Goals as goal

pub loop-s-init : goal.loop-s-init
unfolding numbers_of_sites
loop-s-init c = (search rules, refl, refl)

pub books-requires : goal.books-requires
books-requires c =
    (c.requires.0 c.loop-s.s c.loop-s-test.true, c.requires.1, rw part_all (simp length-drop (omega arith)))

pub loop-s-preserved : goal.loop-s-preserved
loop-s-preserved c =
    let a = c.args in
    let from = 64 * c.loop-s.s in
    let part = c.books.new.out in (
      omega arith,
      same_len_mid from (length c.loop-s.out - from) c.loop-s.out part c.books.auto.out ∙ c.loop-s.invariant.1,
      part_back from c.loop-s.out part
          ∙ rw (c.books.ensures, part_all, c.loop-s.invariant.2)
          (next_site c.loop-s.s (figures_on a.opening) a.table a.records a.out.now),
    )

pub shape_of-out : goal.shape_of-out
shape_of-out c = c.loop-s.invariant.1

pub returns : goal.returns
returns c =
    let a = c.args in
    let e : c.loop-s.s ≡ a.n = omega arith in
    c.loop-s.invariant.2
    ∙ ap (λ (n : ℕ). numbers_of_sites n (figures_on a.opening) a.table a.records ++ drop (64 * n) a.out.now) e
