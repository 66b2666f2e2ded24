-- The loop's invariant: what holds after i lines.
-- Rests on Loop. Assumes nothing.
use Rattle.audit_reading.proofs.Loop.{Going}
use Rattle.audit_reading.proofs.read_record.Given as goal

abbrev pub invariant-loop-i : goal.invariant-loop-i
invariant-loop-i l =
    Going l.matrix l.postings.kinds.now l.postings.firsts.now l.postings.seconds.now l.lines l.initial.notes.seen l.initial.notes.totals l.initial.places l.initial.ahead
    l.notes.totals l.places l.ahead l.tally.counts l.tally.highest l.notes.seen l.i
