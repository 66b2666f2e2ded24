-- `pair` meets its contract.
-- Assumes nothing.
use mathlib.Core.Path.{sym}
use Rattle.flight.proofs.CellLaws.{pair_in}
use Rattle.flight.proofs.Places.{no_posting_lem, no_sender}
use Rattle.flight.proofs.pair.Goals as goal

pub returns-then-m-ge-POSTINGS : goal.returns-then-m-ge-POSTINGS
returns-then-m-ge-POSTINGS c = sym (no_posting_lem _ _ c.if-m-ge-POSTINGS.true)

pub returns-then-from-ge-SITES : goal.returns-then-from-ge-SITES
returns-then-from-ge-SITES c = sym (no_sender _ _ c.if-from-ge-SITES.true)

pub returns : goal.returns
returns c = sym (pair_in _ _ c.if-m-ge-POSTINGS.false c.if-from-ge-SITES.false)
