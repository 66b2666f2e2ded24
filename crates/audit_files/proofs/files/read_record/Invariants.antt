-- `read_record` meets its contract.
-- Rests on LineLaws. Assumes nothing.
use lib.ListN.{length}
use Rattle.audit_files.specs.Steps.{store}
use Rattle.audit_files.proofs.LineLaws.{Reading}
use Rattle.audit_files.proofs.files.read_record.Given as goal

abbrev pub invariant-loop-rest : goal.invariant-loop-rest
invariant-loop-rest l = Reading (store l.postings.kinds.now l.postings.firsts.now l.postings.seconds.now l.postings.amounts.now l.wheres) l.file l.text l.initial.lines l.from l.lines l.refused l.count l.line l.rest

abbrev pub decreases-loop-rest : goal.decreases-loop-rest
decreases-loop-rest l = length l.rest
