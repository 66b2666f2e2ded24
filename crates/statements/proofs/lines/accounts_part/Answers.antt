-- `accounts_part` meets its contract.
-- Assumes nothing.
use mathlib.Core.Path.{sym, ◌∙◌}
use Rattle.statements.specs.Table.{accounts_part}
use Rattle.statements.proofs.lines.accounts_part.Goals as goal

pub returns-then-has_none : goal.returns-then-has_none
unfolding accounts_part
returns-then-has_none c = rw (sym c.has_none.ensures ∙ c.if-has_none.true) c.put_text.ensures

pub returns : goal.returns
unfolding accounts_part
returns c = rw (sym c.has_none.ensures ∙ c.if-has_none.false) c.account_lines.ensures
