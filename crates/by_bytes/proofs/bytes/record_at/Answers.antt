-- `record_at` meets its contract. The loop's invariant: the first i are stored.
-- Assumes nothing.
use Prim.Native.Nat.{ℕ, ◌+◌}
use mathlib.Core.Path.{ap}
use native.Mathlib.Omega.{arith}
use Rattle.sets.specs.Sets.{capacity}
use Rattle.by_bytes.specs.Bytes.{byte_at, record_at}
use Rattle.by_bytes.proofs.Loops.{stored_none, stored_more, stored_all}
use Rattle.by_bytes.proofs.bytes.record_at.Goals as goal

pub loop-i-init : goal.loop-i-init
loop-i-init c = stored_none (λ (i : ℕ). byte_at c.args.bytes.now (i + c.args.from)) capacity 0

pub loop-i-preserved : goal.loop-i-preserved
loop-i-preserved c =
    let at = c.loop-i in
    stored_more (λ (i : ℕ). byte_at c.args.bytes.now (i + c.args.from)) capacity at.m-items at.i c.byte_at.result (omega arith) at.invariant c.byte_at.ensures

pub returns : goal.returns
unfolding record_at
returns c =
    let at = c.loop-i in
    ap (λ l. record { count = c.args.count; numbers = l }) (stored_all (λ (i : ℕ). byte_at c.args.bytes.now (i + c.args.from)) capacity at.m-items at.i (omega arith) at.invariant)
