-- `refused_twice` meets its contract.
-- Assumes nothing.
use mathlib.Core.Path.{refl}
use Rattle.audit_input.proofs.refused_twice.Goals as goal

pub returns : goal.returns
returns c = rw (c.refused.ensures, c.place_of-above.ensures, c.from.ensures, c.record_of-own.ensures) refl
