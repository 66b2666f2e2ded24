-- The loop's invariant: the ends so far follow one another.
-- Assumes nothing.
use Rattle.std.proofs.Common.{◌≡◌, ℕ, ◌<◌, ◌≤◌, get_or}
use Rattle.audit_rule.specs.Handed.{start_of}
use Rattle.audit_input.proofs.ends_ok.Given as goal

abbrev pub invariant-loop-to : goal.invariant-loop-to
invariant-loop-to l =
    (l.from ≡ start_of l.records.ends.now l.to-index) × ((q : ℕ) → q < l.to-index → start_of l.records.ends.now q ≤ get_or l.records.ends.now q 0)
