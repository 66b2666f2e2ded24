-- `site_lines` meets its contract. The loop's invariant: the lines of the first p sites are put.
-- Assumes nothing.
use native.Mathlib.Numerals.{add-one}
use Rattle.printer.specs.Output.{site_lines}
use Rattle.printer.proofs.Writing.{nothing_put, then_put, put_as}
use Rattle.printer.proofs.print.site_lines.Goals as goal

pub loop-p-init : goal.loop-p-init
unfolding site_lines
loop-p-init c =
    let args = c.args in
    nothing_put args.at args.out.now

pub loop-p-preserved : goal.loop-p-preserved
unfolding site_lines
loop-p-preserved c =
    let at = c.loop-p in
    put_as (rw (c.has_site.ensures, c.record_of-delivered.ensures, c.wide.ensures, add-one)) (then_put at.invariant c.site_line-place.ensures)
