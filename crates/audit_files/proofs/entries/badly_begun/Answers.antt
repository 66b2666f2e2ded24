-- `badly_begun` meets its contract.
-- Assumes nothing.
use native.Mathlib.Omega.{arith}
use Rattle.std.proofs.lemmas.Bool.Decides.{nat_tests}
use Rattle.audit_files.specs.Entries.{badly_begun}
use Rattle.audit_files.proofs.entries.badly_begun.Goals as goal

pub returns-then-is_empty : goal.returns-then-is_empty
unfolding badly_begun
returns-then-is_empty c = grind (arith, nat_tests)

pub returns-then-field-eq48 : goal.returns-then-field-eq48
unfolding badly_begun
returns-then-field-eq48 c = grind (arith, nat_tests)

pub returns-else-field-eq48 : goal.returns-else-field-eq48
unfolding badly_begun
returns-else-field-eq48 c = grind (arith, nat_tests)
