-- The loop's invariant: the value of the digits passed, from which the others are scanned.
-- Rests on the specs. Assumes nothing.
use Prim.Native.Nat.{◌≤◌}
use mathlib.Core.Path.{◌≡◌}
use lib.ListN.{drop}
use Rattle.audit_files.specs.Entries.{number_of, scanned}
use Rattle.audit_files.proofs.entries.number_of.Given as goal

abbrev pub invariant-loop-byte : goal.invariant-loop-byte
invariant-loop-byte l = (l.value ≤ l.most) × (number_of l.most l.field ≡ scanned l.most l.value (drop l.byte-index l.field))
