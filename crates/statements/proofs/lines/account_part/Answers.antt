-- `account_part` meets its contract.
-- Assumes nothing.
use mathlib.Core.Path.{sym, ◌∙◌}
use Rattle.statements.specs.Table.{account_part}
use Rattle.printer.proofs.Writing.{nothing_put}
use Rattle.statements.proofs.lines.account_part.Goals as goal

pub returns-then-is_blank : goal.returns-then-is_blank
unfolding account_part
returns-then-is_blank c = rw (sym c.is_blank.ensures ∙ c.if-is_blank.true) (nothing_put c.args.at c.args.out.now)

pub returns : goal.returns
unfolding account_part
returns c = rw (sym c.is_blank.ensures ∙ c.if-is_blank.false) c.account_line.ensures
