-- The loop's invariant: the classes so far fit.
-- Assumes nothing.
use Rattle.std.proofs.Common.{◌≡◌, ◌*◌, true}
use Rattle.sets.specs.Below.{all_below}
use Rattle.audit_reading.specs.Kept.{class_fits}
use Rattle.audit_reading.proofs.fits.Given as goal

abbrev pub invariant-loop-j : goal.invariant-loop-j
invariant-loop-j l = (l.base ≡ 4 * l.row) × (all_below (class_fits l.matrix l.kind l.row l.place l.at l.tally.counts l.tally.highest l.ahead) l.j ≡ true)
