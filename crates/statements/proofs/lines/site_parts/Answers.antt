-- `site_parts` meets its contract. The loop's invariant: the parts of the first p sites are put.
-- Assumes nothing.
use Prim.Native.Nat.{◌-◌}
use native.Mathlib.Numerals.{add-one}
use native.Mathlib.Omega.{arith}
use mathlib.Core.Path.{◌≡◌, ap}
use Rattle.printer.proofs.Writing.{nothing_put, then_put, put_as, put_length}
use Rattle.statements.specs.Table.{site_parts}
use borrow.Author.Rules.{rules}
use Rattle.statements.proofs.lines.site_parts.Goals as goal

pub loop-p-init : goal.loop-p-init
unfolding site_parts
loop-p-init c = (search rules, nothing_put c.args.at c.args.out.now)

pub loop-p-preserved : goal.loop-p-preserved
unfolding site_parts
loop-p-preserved c = (search rules, put_as (rw (c.has_site-is_down.ensures, add-one)) (then_put c.loop-p.invariant.1 c.site_part-place.ensures))

pub shape_of-out : goal.shape_of-out
shape_of-out c = put_length c.loop-p.invariant.1

pub returns : goal.returns
returns c =
    let args = c.args in
    let e : c.loop-p.p ≡ args.n = omega arith in
    put_as (ap (site_parts args.figures.now args.down) e) c.loop-p.invariant.1
