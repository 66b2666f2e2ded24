-- `amount_at` meets its contract.
-- Assumes nothing.
use Rattle.by_bytes.specs.Bytes.{amount_at}
use Rattle.by_bytes.proofs.bytes.amount_at.Goals as goal

pub returns : goal.returns
unfolding amount_at
returns c = rw (c.number.ensures, c.byte_at-w.ensures, c.byte_at-z.ensures, c.byte_at-y.ensures, c.byte_at-x.ensures)
