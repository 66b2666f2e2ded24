-- `matrix_entry` meets its contract: what is no kind has no entry, any other is a bit of the matrix.
-- Assumes nothing.
use Rattle.std.proofs.Common.{rules, tests}
use Rattle.sets.specs.Masks.{has_bit}
use Rattle.posting.specs.Kinds.{matrix_entry}
use Rattle.posting.proofs.matrix_entry.Goals as goal

pub returns-then-j-lt-KINDS : goal.returns-then-j-lt-KINDS
unfolding matrix_entry has_bit
returns-then-j-lt-KINDS c = search (tests, rules)

pub returns-else-j-lt-KINDS : goal.returns-else-j-lt-KINDS
unfolding matrix_entry has_bit
returns-else-j-lt-KINDS c = search (tests, rules)
