-- `cell` meets its contract.
-- Assumes nothing.
use mathlib.Core.Path.{sym}
use Rattle.flight.proofs.Places.{no_form, no_pair, cell_of_pair}
use Rattle.flight.proofs.cell.Goals as goal

pub returns-then-form-ge-FORMS : goal.returns-then-form-ge-FORMS
returns-then-form-ge-FORMS c = sym (no_form _ _ _ c.if-form-ge-FORMS.true)

pub returns-then-i-ge-PAIRS : goal.returns-then-i-ge-PAIRS
returns-then-i-ge-PAIRS c = sym (no_pair _ _ _ _ c.pair-i.ensures c.if-i-ge-PAIRS.true)

pub returns : goal.returns
returns c = sym (cell_of_pair _ _ _ _ c.pair-i.ensures c.if-form-ge-FORMS.false c.if-i-ge-PAIRS.false)
