-- `row_at` meets its contract.
-- Assumes nothing.
use Rattle.by_bytes.specs.Bytes.{row_at}
use Rattle.by_bytes.proofs.bytes.row_at.Goals as goal

pub returns : goal.returns
unfolding row_at
returns c = rw (c.byte_at.ensures, c.byte_at-2.ensures, c.byte_at-3.ensures, c.byte_at-4.ensures, c.amount_at.ensures)
