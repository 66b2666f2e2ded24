-- `headed` meets its contract.
-- Assumes nothing.
use mathlib.Core.Path.{sym}
use native.Mathlib.Omega.{arith}
use lib.ListN.{get_or-eq_default}
use borrow.Author.Tests.{eqb-true}
use Rattle.audit_files.specs.Entries.{headed, is_letter}
use Rattle.audit_files.proofs.files.headed.Goals as goal

pub returns-then-not-is_empty : goal.returns-then-not-is_empty
unfolding headed is_letter
returns-then-not-is_empty c = c.is_ascii_alphabetic.ensures.value

pub returns-else-not-is_empty : goal.returns-else-not-is_empty
unfolding headed is_letter
returns-else-not-is_empty c = rw (c.if-not-is_empty.false, get_or-eq_default c.args.file.now 0 {n = 0} (omega (arith, eqb-true _ 0 (sym c.if-not-is_empty.ensures))))
