-- `table_of` meets its contract. The loop's invariant: the first m are stored.
-- Assumes nothing.
use Rattle.sets.specs.Sets.{capacity}
use Rattle.by_bytes.specs.Bytes.{row_at}
use Rattle.by_bytes.proofs.Loops.{Stored}
use Rattle.by_bytes.proofs.bytes.table_of.Given as goal

abbrev pub invariant-loop-m : goal.invariant-loop-m
invariant-loop-m l = Stored (row_at l.bytes) capacity l.m l.p-items
