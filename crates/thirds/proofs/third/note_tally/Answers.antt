-- `note_tally` meets its contract.
-- Assumes nothing.
use mathlib.Core.Path.{refl}
use Rattle.flat.specs.Flat.{tallying}
use Rattle.thirds.proofs.third.note_tally.Goals as goal

pub returns : goal.returns
unfolding tallying
returns c = refl
