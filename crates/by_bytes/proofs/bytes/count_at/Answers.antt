-- `count_at` meets its contract.
-- Assumes nothing.
use Rattle.by_bytes.specs.Bytes.{count_at}
use Rattle.by_bytes.proofs.bytes.count_at.Goals as goal

pub returns : goal.returns
unfolding count_at
returns c = rw (c.from.ensures, c.from-2.ensures, c.byte_at.ensures, c.byte_at-2.ensures)
