-- `majority` meets its contract.
-- Assumes nothing.
use mathlib.Core.Path.{refl}
use Rattle.site.proofs.Setup.majority.Goals as goal

pub returns : goal.returns
returns c = rw c.from.ensures refl
