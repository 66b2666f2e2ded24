-- `row_part` meets its contract.
-- Assumes nothing.
use mathlib.Core.Path.{sym, ◌∙◌}
use Rattle.printer.proofs.Writing.{nothing_put}
use Rattle.audit_table.specs.Table.{row_part}
use Rattle.audit_table.proofs.row_part.Goals as goal

pub returns-then-row_differs : goal.returns-then-row_differs
unfolding row_part
returns-then-row_differs c = rw (sym c.row_differs.ensures ∙ c.if-row_differs.true) c.row_line.ensures

pub returns-else-row_differs : goal.returns-else-row_differs
unfolding row_part
returns-else-row_differs c = rw (sym c.row_differs.ensures ∙ c.if-row_differs.false) (nothing_put c.args.at c.args.out.now)
