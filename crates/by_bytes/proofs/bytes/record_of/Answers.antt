-- `record_of` meets its contract.
-- Assumes nothing.
use Rattle.by_bytes.specs.Bytes.{record_of_bytes}
use Rattle.by_bytes.proofs.bytes.record_of.Goals as goal

pub returns : goal.returns
unfolding record_of_bytes
returns c = c.record_at.ensures
