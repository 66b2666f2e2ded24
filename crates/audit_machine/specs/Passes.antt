-- The records of a board pass the audit.
-- Rests on audit_rule's Audit and on machine's definitions. The proof is in proofs/Passed.
use Rattle.std.specs.Prelude.{ℕ, ◌≡◌}
use Rattle.posting.specs.Conflicts.{conflict}
use Rattle.machine.specs.declared.Board.{Board}
use Rattle.machine.specs.Figures.{record_of}
use Rattle.audit_rule.specs.Audit.{agreed, audit}

-- The audit of the records of n sites, of postings with numbers below a bound, answers that they agree.
abbrev pub Passes : (n matrix bound : ℕ) → Board → Type 0
Passes n matrix bound b = audit (conflict matrix b.table) bound n (record_of b) ≡ agreed
