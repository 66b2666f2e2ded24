-- `flight_from` meets its contract.
-- Assumes nothing.
use Rattle.image.specs.Image.{flight_from}
use Rattle.image.proofs.reading.flight_from.Goals as goal

pub returns : goal.returns
unfolding flight_from
returns c = rw (c.words_from.ensures, c.bytes_from-2.ensures, c.bytes_from.ensures)
