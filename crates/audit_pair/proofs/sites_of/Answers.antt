-- `sites_of` meets its contract.
-- Rests on Visits. Assumes nothing.
use Rattle.std.proofs.Common.{◌∙◌, ap, arith}
use Rattle.audit_pair.specs.Pair.{stands}
use Rattle.audit_pair.proofs.Visits.{visit_next, visit_end}
use Rattle.audit_pair.proofs.sites_of.Goals as goal

pub loop-p-preserved : goal.loop-p-preserved
loop-p-preserved c =
    rw c.with_site-sites.ensures (visit_next c.loop-p.invariant c.loop-p-test.true (c.stands.ensures ∙ ap (stands c.args.x c.args.y) c.record_of.ensures))

pub returns : goal.returns
returns c = visit_end c.loop-p.invariant (omega arith)
