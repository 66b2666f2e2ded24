-- What is written is part of the buffer.
-- Rests on printer. Assumes nothing.
use Rattle.program.proofs.Made.{made_within}
use Rattle.program.proofs.print_from.Goals as goal

pub write_made-requires : goal.write_made-requires
write_made-requires g c = made_within _ _ _ _ c.run_file-made.ensures.value c.run_file-made.ensures.out_after
