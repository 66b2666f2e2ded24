-- `record_at` meets its contract. The loop's invariant: the first i are stored.
-- Assumes nothing.
use Prim.Native.Nat.{ℕ, ◌+◌}
use Rattle.sets.specs.Sets.{capacity}
use Rattle.by_bytes.specs.Bytes.{byte_at}
use Rattle.by_bytes.proofs.Loops.{Stored}
use Rattle.by_bytes.proofs.bytes.record_at.Given as goal

abbrev pub invariant-loop-i : goal.invariant-loop-i
invariant-loop-i l = Stored (λ (i : ℕ). byte_at l.bytes (i + l.from)) capacity l.i l.m-items
