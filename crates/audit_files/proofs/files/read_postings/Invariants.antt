-- `read_postings` meets its contract.
-- Rests on LineLaws. Assumes nothing.
use lib.ListN.{length}
use Rattle.audit_files.specs.Steps.{store}
use Rattle.audit_files.proofs.LineLaws.{RoomyNoting}
use Rattle.audit_files.proofs.files.read_postings.Given as goal

abbrev pub invariant-loop-rest : goal.invariant-loop-rest
invariant-loop-rest l = RoomyNoting l.own l.file l.text (store l.initial.kinds l.initial.firsts l.initial.seconds l.initial.amounts l.initial.wheres) (store l.kinds l.firsts l.seconds l.amounts l.wheres) l.refused l.line l.rest

abbrev pub decreases-loop-rest : goal.decreases-loop-rest
decreases-loop-rest l = length l.rest
