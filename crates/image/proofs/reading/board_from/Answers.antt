-- `board_from` meets its contract.
-- Assumes nothing.
use Rattle.image.specs.Image.{board_from}
use Rattle.image.proofs.reading.board_from.Goals as goal

pub returns : goal.returns
unfolding board_from
returns c =
    rw (
      c.record_from.ensures,
      c.entries_from.ensures,
      c.set_from.ensures,
      c.flight_from.ensures,
      c.tallies_from.ensures,
      c.sites_from.ensures,
      c.table_from.ensures,
      c.setup_from.ensures,
    )
