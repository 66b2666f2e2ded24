-- `put_lacks` meets its contract. The loop's invariant: the lines of the first sites are put.
-- Assumes nothing.
use mathlib.Core.Path.{◌≡◌, ap}
use native.Mathlib.Numerals.{add-one}
use native.Mathlib.Omega.{arith}
use Rattle.printer.proofs.Writing.{nothing_put, then_put, put_as, put_length}
use Rattle.audit_report.specs.Needs.{lacked_lines}
use Rattle.audit_report.proofs.put_lacks.Goals as goal

pub loop-p-init : goal.loop-p-init
unfolding lacked_lines
loop-p-init c = (omega arith, nothing_put c.args.at c.args.out.now)

pub put_lack-place-requires : goal.put_lack-place-requires
put_lack-place-requires c = c.requires.known c.loop-p.p c.loop-p-test.true

pub loop-p-preserved : goal.loop-p-preserved
unfolding lacked_lines
loop-p-preserved c = (omega (arith, c.loop-p-test.true), put_as (rw add-one) (then_put c.loop-p.invariant.1 c.put_lack-place.ensures))

pub shape_of-out : goal.shape_of-out
shape_of-out c = put_length c.loop-p.invariant.1

pub returns : goal.returns
returns c =
    let a = c.args in
    let e : c.loop-p.p ≡ a.n = omega (arith, c.loop-p-test.false, c.loop-p.invariant.0) in
    put_as (ap (lacked_lines a.kinds.now a.notes.counts.now a.notes.lowests.now) e) c.loop-p.invariant.1
