-- `site_record` meets its contract.
-- Assumes nothing.
use Rattle.by_bytes.specs.Bytes.{site_record}
use Rattle.by_bytes.proofs.bytes.site_record.Goals as goal

pub returns : goal.returns
unfolding site_record
returns c = rw (c.record_at.ensures, c.count_at-count.ensures)
