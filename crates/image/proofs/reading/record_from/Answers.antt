-- `record_from` meets its contract.
-- Assumes nothing.
use Rattle.image.specs.Image.{record_from}
use Rattle.image.proofs.reading.record_from.Goals as goal

pub returns : goal.returns
unfolding record_from
returns c = rw (c.bytes_from.ensures, c.count.ensures)
