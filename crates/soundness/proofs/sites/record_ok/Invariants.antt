-- `record_ok` meets its contract. The loop's invariant: the first i numbers are offered, none is twice among them, and they are the set met.
-- Assumes nothing.
use mathlib.Core.Path.{◌≡◌}
use Rattle.soundness.proofs.Turns.{first_of, Checked}
use Rattle.soundness.proofs.sites.record_ok.Given as goal

abbrev pub invariant-loop-number : goal.invariant-loop-number
invariant-loop-number l = (l.met ≡ first_of l.fn.postings.numbers l.number-index) × Checked l.count l.fn.postings l.number-index
