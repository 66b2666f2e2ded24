-- The measure of `put_long` is the number, which a tenth of it is below.
-- Assumes nothing.
use Rattle.printer.proofs.print.+put_long.Given as goal

abbrev pub decreases-put_long : goal.decreases-put_long
decreases-put_long l = l.x
