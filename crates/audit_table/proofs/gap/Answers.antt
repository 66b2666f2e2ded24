-- `gap` meets its contract.
-- Assumes nothing.
use native.Mathlib.Omega.{arith}
use Rattle.std.proofs.lemmas.Bool.Decides.{nat_tests}
use Rattle.audit_table.specs.Table.{gap}
use Rattle.audit_table.proofs.gap.Goals as goal

pub returns : goal.returns
unfolding gap
returns c = grind (arith, nat_tests)
