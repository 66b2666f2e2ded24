-- `offer_of` meets its contract.
-- Assumes nothing.
use Rattle.decoder.specs.RunFile.{offer_of}
use Rattle.decoder.proofs.file.offer_of.Goals as goal

pub returns : goal.returns
unfolding offer_of
returns c = rw (c.quad-amount.ensures, c.byte_at.ensures, c.byte_at-2.ensures, c.byte_at-3.ensures, c.byte_at-4.ensures, c.from.ensures, c.byte_at-5.ensures, c.byte_at-6.ensures, c.byte_at-7.ensures, c.byte_at-8.ensures, c.cut_of.ensures, c.byte_at-9.ensures)
