-- The loop's invariant: the four searches, after p sites.
-- Rests on Visits. Assumes nothing.
use Rattle.audit_pair.proofs.Visits.{Visiting}
use Rattle.audit_pair.proofs.sites_of.Given as goal

abbrev pub invariant-loop-p : goal.invariant-loop-p
invariant-loop-p l = Visiting l.records.lines.now l.records.ends.now l.x l.y l.sites l.p
