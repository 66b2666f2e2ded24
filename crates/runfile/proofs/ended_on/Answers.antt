-- `ended_on` meets its contract.
-- Assumes nothing.
use mathlib.Core.Path.{refl}
use Rattle.runfile.proofs.Runs.{ended_shown}
use Rattle.runfile.proofs.ended_on.Goals as goal

pub returns : goal.returns
returns c =
    λ setup e. ended_shown setup c.args.board.now c.args.quiet _ _ _ _ e refl c.records_of.ensures c.log_of.ensures
