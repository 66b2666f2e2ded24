-- The loop's invariant: what the sites below p lack is noted.
-- Rests on Needs. Assumes nothing.
use Rattle.audit_lacks.specs.Needs.{Lacking}
use Rattle.audit_lacks.proofs.note_lacked.Given as goal

abbrev pub invariant-loop-p : goal.invariant-loop-p
invariant-loop-p l = Lacking l.records.lines.now l.records.ends.now l.counts l.lowests l.bound l.p
