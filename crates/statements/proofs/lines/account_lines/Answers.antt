-- `account_lines` meets its contract. The loop's invariant: the lines of the first k accounts are put.
-- Assumes nothing.
use Prim.Native.Nat.{◌-◌}
use native.Mathlib.Numerals.{add-one}
use native.Mathlib.Omega.{arith}
use mathlib.Core.Path.{◌≡◌, ap}
use Rattle.printer.proofs.Writing.{nothing_put, then_put, put_as, put_length}
use Rattle.posting.specs.Kinds.{accounts}
use Rattle.statements.specs.Table.{account_lines}
use borrow.Author.Rules.{rules}
use Rattle.statements.proofs.lines.account_lines.Goals as goal

pub loop-k-init : goal.loop-k-init
unfolding account_lines
loop-k-init c = (search rules, nothing_put c.args.at c.args.out.now)

pub loop-k-preserved : goal.loop-k-preserved
unfolding account_lines
loop-k-preserved c = (search rules, put_as (rw (c.account_at-a.ensures, add-one)) (then_put c.loop-k.invariant.1 c.account_part-place.ensures))

pub shape_of-out : goal.shape_of-out
shape_of-out c = put_length c.loop-k.invariant.1

pub returns : goal.returns
returns c =
    let args = c.args in
    let e : c.loop-k.k ≡ accounts = omega arith in
    put_as (ap (account_lines args.figures.now args.p) e) c.loop-k.invariant.1
