-- `receive_of` meets its contract.
-- Assumes nothing.
use Rattle.decoder.specs.RunFile.{receive_of}
use Rattle.decoder.proofs.file.receive_of.Goals as goal

pub returns : goal.returns
unfolding receive_of
returns c = rw (c.from.ensures, c.byte_at.ensures, c.from-2.ensures, c.byte_at-2.ensures, c.from-3.ensures, c.byte_at-3.ensures, c.from-4.ensures, c.byte_at-4.ensures, c.cut_of.ensures, c.byte_at-5.ensures)
