-- `figure_name` meets its contract.
-- Assumes nothing.
use Rattle.std.proofs.Common.{rules}
use Rattle.audit_table.specs.Table.{figure_name}
use Rattle.audit_table.proofs.figure_name.Goals as goal

pub returns-in-0 : goal.returns-in-0
unfolding figure_name
returns-in-0 c = search rules

pub returns-in-1 : goal.returns-in-1
unfolding figure_name
returns-in-1 c = search rules

pub returns-in-2 : goal.returns-in-2
unfolding figure_name
returns-in-2 c = search rules

pub returns-in_default : goal.returns-in_default
unfolding figure_name
returns-in_default c = search rules
