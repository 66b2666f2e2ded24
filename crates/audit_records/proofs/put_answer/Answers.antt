-- `put_answer` meets its contract.
-- Assumes nothing.
use Rattle.std.proofs.Common.{refl}
use Rattle.audit_records.proofs.put_answer.Goals as goal

pub returns : goal.returns
returns c = rw c.copy_from_slice.ensures.after refl
