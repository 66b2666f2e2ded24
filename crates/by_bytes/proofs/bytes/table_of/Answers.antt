-- `table_of` meets its contract. The loop's invariant: the first m are stored.
-- Assumes nothing.
use mathlib.Core.Path.{ap}
use native.Mathlib.Omega.{arith}
use Rattle.sets.specs.Sets.{capacity}
use Rattle.by_bytes.specs.Bytes.{row_at, row_count, table_of}
use Rattle.by_bytes.proofs.Loops.{stored_none, stored_more, stored_all}
use Rattle.by_bytes.proofs.bytes.table_of.Goals as goal

pub loop-m-init : goal.loop-m-init
loop-m-init c = stored_none (row_at c.args.bytes.now) capacity c.default-rows.result

pub loop-m-preserved : goal.loop-m-preserved
loop-m-preserved c =
    let at = c.loop-m in
    stored_more (row_at c.args.bytes.now) capacity at.p-items at.m c.row_at.result (omega arith) at.invariant c.row_at.ensures

pub returns : goal.returns
unfolding table_of
returns c =
    let at = c.loop-m in
    ap (λ l. record { count = row_count c.args.bytes.now; rows = l }) (stored_all (row_at c.args.bytes.now) capacity at.p-items at.m (omega arith) at.invariant)
