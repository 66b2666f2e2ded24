-- `site_lines` meets its contract. The loop's invariant: the lines of the first p sites are put.
-- Assumes nothing.
use Rattle.printer.specs.Output.{site_lines}
use Rattle.printer.specs.Puts.{Put}
use Rattle.printer.proofs.print.site_lines.Given as goal

abbrev pub invariant-loop-p : goal.invariant-loop-p
invariant-loop-p l = Put (site_lines l.down l.records l.p) l.at l.initial.out l.out l.place
