-- `note_heard` meets its contract.
-- Assumes nothing.
use mathlib.Core.Path.{refl}
use Rattle.flat.specs.Flat.{hearing}
use Rattle.seconds.proofs.second.note_heard.Goals as goal

pub returns : goal.returns
unfolding hearing
returns c = refl
