-- `fits` meets its contract.
-- Rests on sets' BelowLaws. Assumes nothing.
use Rattle.std.proofs.Common.{◌≡◌, ◌*◌, refl, ap, sym, ◌∙◌, arith, rules}
use Rattle.sets.specs.Below.{all_below}
use Rattle.sets.proofs.BelowLaws.{all_fails, all_more}
use Rattle.audit_reading.specs.Kept.{class_fits, fits_classes}
use Rattle.audit_reading.proofs.fits.Goals as goal

pub loop-j-init : goal.loop-j-init
unfolding all_below
loop-j-init c = (ap (λ v. 4 * v) c.from-base.ensures, refl)

pub returns-then-not-fits_class : goal.returns-then-not-fits_class
unfolding fits_classes
returns-then-not-fits_class c =
    let v = c.args in
    sym (all_fails (class_fits v.matrix v.kind v.row v.place v.at v.tally.now.counts v.tally.now.highest v.ahead.now) 4 c.loop-j.j (search rules) (rw (c.from-i.ensures, c.loop-j.invariant.0) at (sym c.fits_class.ensures ∙ c.if-not-fits_class.true)))

pub loop-j-preserved : goal.loop-j-preserved
unfolding all_below
loop-j-preserved c =
    let v = c.args in
    let at = c.loop-j in
    (at.invariant.0, all_more (class_fits v.matrix v.kind v.row v.place v.at v.tally.now.counts v.tally.now.highest v.ahead.now) at.j at.invariant.1 (rw (c.from-i.ensures, at.invariant.0) at (sym c.fits_class.ensures ∙ c.if-not-fits_class.false)))

pub returns : goal.returns
unfolding fits_classes
returns c =
    let e : c.loop-j.j ≡ 4 = omega arith in
    sym (rw e at c.loop-j.invariant.1)
