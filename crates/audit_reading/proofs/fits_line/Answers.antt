-- `fits_line` meets its contract.
-- Assumes nothing.
use Rattle.std.proofs.Common.{sym, ◌∙◌}
use borrow.Author.Tests.{ne_eqb}
use Rattle.audit_reading.specs.Kept.{fits_line}
use Rattle.audit_reading.proofs.fits_line.Goals as goal

pub returns-else-a-b : goal.returns-else-a-b
unfolding fits_line
returns-else-a-b c = rw (sym c.fits.ensures ∙ c.if-fits.true, ne_eqb _ _ c.if-a-b.false) c.fits-else-a-b.ensures
