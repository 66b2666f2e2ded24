-- `setup_of` meets its contract.
-- Assumes nothing.
use Rattle.decoder.specs.RunFile.{setup_of}
use Rattle.decoder.proofs.file.setup_of.Goals as goal

pub returns : goal.returns
unfolding setup_of
returns c = rw (c.byte_at.ensures, c.byte_at-2.ensures, c.pair.ensures, c.byte_at-3.ensures, c.byte_at-4.ensures)
