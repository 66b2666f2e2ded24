-- `third_ok` meets its contract.
-- Assumes nothing.
use mathlib.Core.Path.{sym, ◌∙◌}
use Rattle.std.proofs.Common.{rules, tests}
use Rattle.cells.specs.Cells.{third_sound}
use Rattle.cells.proofs.third_ok.Goals as goal

pub returns-then-only_to : goal.returns-then-only_to
unfolding third_sound
returns-then-only_to c = rw (sym c.only_to.ensures ∙ c.if-only_to.true, c.subset.ensures, c.carried_set.ensures)

pub returns-else-only_to : goal.returns-else-only_to
unfolding third_sound
returns-else-only_to c = search (tests, rules)
