-- `put_verdict` meets its contract.
-- Assumes nothing.
use Rattle.audit_report.proofs.put_verdict.Goals as goal

pub returns-else-same : goal.returns-else-same
returns-else-same c = rw c.if-same.false c.put_text-else-same.ensures
