-- `site_from` meets its contract.
-- Assumes nothing.
use Rattle.image.specs.Image.{site_from}
use Rattle.image.proofs.reading.site_from.Goals as goal

pub returns : goal.returns
unfolding site_from
returns c =
    rw (
      c.record_from.ensures,
      c.count.ensures,
      c.bytes_from-2.ensures,
      c.bytes_from.ensures,
      c.set_from-5.ensures,
      c.set_from-4.ensures,
      c.set_from-3.ensures,
      c.set_from-2.ensures,
      c.set_from.ensures,
    )
