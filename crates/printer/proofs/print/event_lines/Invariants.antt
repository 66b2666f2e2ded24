-- The loop's invariant: the lines of the first i events are put.
-- Assumes nothing.
use lib.ListN.{take}
use Rattle.printer.specs.Output.{event_lines}
use Rattle.printer.specs.Puts.{Put}
use Rattle.printer.proofs.print.event_lines.Given as goal

abbrev pub invariant-loop-i : goal.invariant-loop-i
invariant-loop-i l = Put (event_lines 0 (take l.i l.refusals)) l.at l.initial.out l.out l.place
