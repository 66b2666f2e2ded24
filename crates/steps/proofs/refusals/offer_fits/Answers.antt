-- `offer_fits` meets its contract.
-- Assumes nothing.
use mathlib.Core.Path.{sym, ◌∙◌}
use borrow.Author.Tests.{le-leb, lt-leb}
use Rattle.steps.specs.CauseLists.{first_cause}
use Rattle.steps.proofs.refusals.offer_fits.Goals as goal

pub returns-then-not-fields_ok : goal.returns-then-not-fields_ok
unfolding first_cause
returns-then-not-fields_ok c = rw (sym c.fields_ok.ensures ∙ c.if-not-fields_ok.true)

pub returns-then-count-ge-POSTINGS : goal.returns-then-count-ge-POSTINGS
unfolding first_cause
returns-then-count-ge-POSTINGS c = rw (sym c.fields_ok.ensures ∙ c.if-not-fields_ok.false, le-leb _ _ c.if-count-ge-POSTINGS.true)

pub returns : goal.returns
unfolding first_cause
returns c = rw (sym c.fields_ok.ensures ∙ c.if-not-fields_ok.false, lt-leb _ _ c.if-count-ge-POSTINGS.false)
