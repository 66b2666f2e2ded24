-- The loop's invariant: what holds after some of the records.
-- Rests on Tour. Assumes nothing.
use Rattle.audit_reading.proofs.Tour.{Touring}
use Rattle.audit_reading.proofs.departure.Given as goal

abbrev pub invariant-loop-site : goal.invariant-loop-site
invariant-loop-site l =
    Touring l.matrix l.postings.kinds.now l.postings.firsts.now l.postings.seconds.now l.records.lines.now l.records.ends.now l.initial.places l.initial.ahead
    l.places l.ahead l.notes.totals l.notes.seen l.site
