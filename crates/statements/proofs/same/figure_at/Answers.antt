-- `figure_at` meets its contract.
-- Assumes nothing.
use Prim.Native.Nat.{◌+◌, ◌*◌, ◌≤◌}
use mathlib.Core.Path.{◌≡◌, ◌∙◌}
use native.Mathlib.Omega.{arith}
use lib.IntN.{pos}
use lib.ListN.{length, get_or, get_or-eq_default}
use Rattle.books.proofs.Signed.{read_back}
use borrow.Author.Rules.{rules}
use Rattle.statements.proofs.same.figure_at.Goals as goal

pub returns-then-at-figures : goal.returns-then-at-figures
returns-then-at-figures c =
    let args = c.args in
    let x = get_or args.figures.now (64 * c.wide.result + 4 * c.wide-2.result + args.i) (pos 0) in
    let e : read_back x ≡ x = search rules in
    e ∙ rw (c.wide.ensures, c.wide-2.ensures)

pub returns : goal.returns
returns c =
    let args = c.args in
    let h : length args.figures.now ≤ 64 * args.p + 4 * args.k + args.i = omega (arith, c.wide.ensures, c.wide-2.ensures) in
    rw (get_or-eq_default args.figures.now (pos 0) {n = 64 * args.p + 4 * args.k + args.i} h)
