-- `fits_class` meets its contract.
-- Assumes nothing.
use Rattle.std.proofs.Common.{refl, sym, ◌∙◌}
use borrow.Author.Tests.{eq-eqb, ne_eqb}
use Rattle.audit_reading.specs.Kept.{fits_class}
use Rattle.audit_reading.proofs.fits_class.Goals as goal

pub returns-then-tally-c : goal.returns-then-tally-c
unfolding fits_class
returns-then-tally-c c = rw (sym c.matrix_entry.ensures ∙ c.if-not-matrix_entry.false, eq-eqb _ _ c.if-tally-c.true) refl

pub returns-else-tally-c : goal.returns-else-tally-c
unfolding fits_class
returns-else-tally-c c = rw (sym c.matrix_entry.ensures ∙ c.if-not-matrix_entry.false, ne_eqb _ _ c.if-tally-c.false) refl
