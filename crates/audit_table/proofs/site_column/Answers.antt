-- `site_column` meets its contract.
-- Assumes nothing.
use Rattle.printer.proofs.Writing.{then_put, put_as}
use Rattle.audit_table.proofs.Columns.{site_heading}
use borrow.Author.Rules.{rules}
use Rattle.audit_table.proofs.site_column.Goals as goal

pub returns : goal.returns
returns c = put_as (site_heading c.args.p (search rules)) (then_put c.put_text-place.ensures c.put_number.ensures)
