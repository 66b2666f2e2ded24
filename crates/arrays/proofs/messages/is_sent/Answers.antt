-- `is_sent` meets its contract.
-- Assumes nothing.
use mathlib.Core.Path.{sym}
use Rattle.sets.specs.Masks.{has_bit}
use Rattle.flight.proofs.Places.{form_unknown, posting_unknown, bit_found}
use Rattle.arrays.proofs.messages.is_sent.Goals as goal

pub returns-then-form-ge-FORMS : goal.returns-then-form-ge-FORMS
returns-then-form-ge-FORMS c = sym (form_unknown _ _ _ _ _ c.if-form-ge-FORMS.true)

pub returns-then-m-ge-POSTINGS : goal.returns-then-m-ge-POSTINGS
returns-then-m-ge-POSTINGS c = sym (posting_unknown _ _ _ _ _ c.if-m-ge-POSTINGS.true)

pub returns : goal.returns
unfolding has_bit
returns c =
    let p = c.requires in
    sym (bit_found _ _ _ _ _ c.if-form-ge-FORMS.false c.if-m-ge-POSTINGS.false p.0 p.1)
