-- `first_unknown` meets its contract.
-- Rests on Searches. Assumes nothing.
use Rattle.audit_input.specs.Input.{unknown_line}
use Rattle.audit_input.proofs.Searches.{looked_next, spot_found, spot_none}
use Rattle.audit_input.proofs.first_unknown.Goals as goal

pub returns-in-Some : goal.returns-in-Some
returns-in-Some c =
    let r = c.args.records in
    spot_found (unknown_line c.args.kinds.now) r.lines.now r.ends.now c.loop-site.invariant c.loop-site-test.true _ (rw (c.in-Some.is, c.record_of.ensures) at c.unknown_line.ensures)

pub loop-site-preserved : goal.loop-site-preserved
loop-site-preserved c =
    let r = c.args.records in
    looked_next (unknown_line c.args.kinds.now) r.lines.now r.ends.now c.loop-site.invariant c.loop-site-test.true (rw (c.in_default.is, c.record_of.ensures) at c.unknown_line.ensures)

pub returns : goal.returns
returns c = let r = c.args.records in spot_none (unknown_line c.args.kinds.now) r.lines.now r.ends.now c.loop-site.invariant c.loop-site-test.false
