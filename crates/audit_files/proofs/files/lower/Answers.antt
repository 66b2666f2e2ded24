-- `lower` meets its contract.
-- Assumes nothing.
use native.Mathlib.Omega.{arith}
use Rattle.std.proofs.lemmas.Bool.Decides.{nat_tests}
use Rattle.audit_files.specs.Files.{lower}
use Rattle.audit_files.proofs.files.lower.Goals as goal

pub returns-then-s-r : goal.returns-then-s-r
unfolding lower
returns-then-s-r c = grind (arith, nat_tests)

pub returns-else-s-ne0 : goal.returns-else-s-ne0
unfolding lower
returns-else-s-ne0 c = grind (arith, nat_tests)
