-- The loop's invariant: the first numbers are put, as many as the loop has done.
-- Assumes nothing.
use lib.ListN.{take}
use Rattle.printer.specs.Output.{items}
use Rattle.printer.specs.Puts.{Put}
use Rattle.printer.proofs.print.put_items.Given as goal

abbrev pub invariant-loop-m : goal.invariant-loop-m
invariant-loop-m l = Put (items (take l.m-index l.m-items)) l.at l.initial.out l.out l.place
