-- `records_of` meets its contract. The loop's invariant: the first s are stored.
-- Assumes nothing.
use Rattle.by_bytes.specs.Bytes.{site_record}
use Rattle.by_bytes.proofs.Loops.{Stored}
use Rattle.by_bytes.proofs.bytes.records_of.Given as goal

abbrev pub invariant-loop-s : goal.invariant-loop-s
invariant-loop-s l = Stored (site_record l.bytes) 7 l.s l.delivered-items
