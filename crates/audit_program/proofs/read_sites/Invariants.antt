-- The loop's invariant: each site before p brought 65,537 lines at most.
-- Assumes nothing.
use Rattle.std.proofs.Common.{◌≤◌, ◌*◌}
use Rattle.audit_program.proofs.read_sites.Given as goal

abbrev pub invariant-loop-p : goal.invariant-loop-p
invariant-loop-p g l = l.from ≤ 65_537 * l.p
