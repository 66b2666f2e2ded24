-- The loop's invariant: the first bytes of the text are put, as many as the loop has done.
-- Assumes nothing.
use lib.ListN.{take}
use Rattle.printer.specs.Puts.{Put}
use Rattle.printer.proofs.print.put_text.Given as goal

abbrev pub invariant-loop-byte : goal.invariant-loop-byte
invariant-loop-byte l = Put (take l.byte-index l.text) l.at l.initial.out l.out l.place
