-- `records_of` meets its contract. The loop's invariant: the first s are stored.
-- Assumes nothing.
use mathlib.Core.Path.{ap}
use native.Mathlib.Omega.{arith}
use Rattle.by_bytes.specs.Bytes.{site_record, records_of}
use Rattle.by_bytes.proofs.Loops.{stored_none, stored_more, stored_all}
use Rattle.by_bytes.proofs.bytes.records_of.Goals as goal

pub loop-s-init : goal.loop-s-init
loop-s-init c = stored_none (site_record c.args.bytes.now) 7 c.empty-sites.result

pub loop-s-preserved : goal.loop-s-preserved
loop-s-preserved c =
    let at = c.loop-s in
    stored_more (site_record c.args.bytes.now) 7 at.delivered-items at.s c.site_record.result (omega arith) at.invariant c.site_record.ensures

pub returns : goal.returns
unfolding records_of
returns c =
    let at = c.loop-s in
    ap (λ l. record { sites = l }) (stored_all (site_record c.args.bytes.now) 7 at.delivered-items at.s (omega arith) at.invariant)
