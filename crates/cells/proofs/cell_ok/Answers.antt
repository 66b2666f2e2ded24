-- `cell_ok` meets its contract.
-- Assumes nothing.
use Rattle.std.proofs.Common.{rules, tests}
use Rattle.sets.specs.Below.{all_of}
use Rattle.cells.specs.Cells.{cell_sound}
use Rattle.cells.proofs.cell_ok.Goals as goal

pub returns-then-mask-eq0 : goal.returns-then-mask-eq0
unfolding cell_sound all_of
returns-then-mask-eq0 c = search (tests, rules)

pub returns-then-k-ne-THIRD : goal.returns-then-k-ne-THIRD
unfolding cell_sound all_of
returns-then-k-ne-THIRD c = search (tests, rules)

pub returns-else-k-ne-THIRD : goal.returns-else-k-ne-THIRD
unfolding cell_sound all_of
returns-else-k-ne-THIRD c = search (tests, rules)

pub returns-else-sites_below : goal.returns-else-sites_below
unfolding cell_sound all_of
returns-else-sites_below c = search (tests, rules)
