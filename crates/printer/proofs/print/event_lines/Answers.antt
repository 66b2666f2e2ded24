-- `event_lines` meets its contract.
-- Assumes nothing.
use native.Mathlib.Omega.{arith}
use Rattle.printer.specs.Output.{event_lines}
use Rattle.printer.proofs.Writing.{nothing_put, then_put, put_as}
use Rattle.printer.proofs.Texts.{line_more}
use Rattle.printer.proofs.print.event_lines.Goals as goal

pub loop-i-init : goal.loop-i-init
unfolding event_lines
loop-i-init c = nothing_put c.args.at c.args.out.now

pub loop-i-preserved : goal.loop-i-preserved
loop-i-preserved c =
    put_as (line_more c.args.refusals.now c.loop-i.i (omega arith)) (then_put c.loop-i.invariant c.event_line-place.ensures)
