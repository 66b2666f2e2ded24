-- `log_of` meets its contract.
-- Assumes nothing.
use Rattle.views.specs.Views.{log_of}
use Rattle.views.proofs.log_of.Goals as goal

pub returns : goal.returns
unfolding log_of
returns c = rw c.column.ensures
