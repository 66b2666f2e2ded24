-- `posting_bytes` meets its contract.
-- Assumes nothing.
use mathlib.Core.Path.{refl}
use Rattle.layout.specs.Laying.{up_to, posting_bytes}
use Rattle.layout.proofs.posting_bytes.Goals as goal

pub returns : goal.returns
unfolding posting_bytes up_to
returns c = refl
