-- `put_table` meets its contract.
-- Assumes nothing.
use mathlib.Core.Path.{sym, ◌∙◌}
use Rattle.printer.proofs.Writing.{then_put}
use Rattle.audit_table.specs.Table.{gap, label, table_text}
use Rattle.audit_table.proofs.put_table.Goals as goal

pub returns-then-not-any_differs : goal.returns-then-not-any_differs
unfolding table_text
returns-then-not-any_differs c = rw (sym c.any_differs.ensures ∙ c.if-not-any_differs.true) c.put_text.ensures

pub returns : goal.returns
unfolding table_text label gap
returns c =
    rw (sym c.any_differs.ensures ∙ c.if-not-any_differs.false)
    (then_put c.put_text-p.ensures (then_put c.put_spaces-q.ensures (then_put c.site_columns-r.ensures (then_put c.put-s.ensures c.row_parts.ensures))))
