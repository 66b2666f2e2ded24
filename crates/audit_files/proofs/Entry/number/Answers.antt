-- `number` meets its contract.
-- Assumes nothing.
use mathlib.Core.Path.{refl}
use Rattle.audit_files.proofs.Entry.number.Goals as goal

pub returns-in-Whole : goal.returns-in-Whole
returns-in-Whole c = rw c.in-Whole.is refl
