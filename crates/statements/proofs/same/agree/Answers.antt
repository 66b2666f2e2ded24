-- `agree` meets its contract.
-- Assumes nothing.
use mathlib.Core.Path.{sym, ◌∙◌}
use Rattle.statements.specs.Table.{agree}
use Rattle.statements.proofs.same.agree.Goals as goal

pub returns-then-has_site : goal.returns-then-has_site
unfolding agree
returns-then-has_site c = rw (sym c.has_site.ensures ∙ c.if-has_site.true)

pub returns-then-has_site-2 : goal.returns-then-has_site-2
unfolding agree
returns-then-has_site-2 c = rw (sym c.has_site.ensures ∙ c.if-has_site.false, sym c.has_site-2.ensures ∙ c.if-has_site-2.true)

pub returns : goal.returns
unfolding agree
returns c = rw (sym c.has_site.ensures ∙ c.if-has_site.false, sym c.has_site-2.ensures ∙ c.if-has_site-2.false) c.same_site.ensures
