-- `pass_on` meets its contract.
-- Assumes nothing.
use Rattle.seconds.proofs.second.pass_on.Goals as goal

pub returns : goal.returns
returns c = record { bytes_after = rw (c.mark.ensures, c.note_heard.ensures); masks_after = rw (c.send.ensures, c.take_out.ensures) }
