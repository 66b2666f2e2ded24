-- `site_acts` meets its contract.
-- Assumes nothing.
use mathlib.Core.Path.{sym, ◌∙◌}
use native.Mathlib.Omega.{arith}
use borrow.Author.Tests.{le-leb, lt-leb}
use Rattle.steps.specs.CauseLists.{first_cause}
use Rattle.steps.proofs.refusals.site_acts.Goals as goal

pub returns-then-from-p : goal.returns-then-from-p
unfolding first_cause
returns-then-from-p c = rw (le-leb c.args.n c.args.p (omega arith))

pub returns-then-has_site : goal.returns-then-has_site
unfolding first_cause
returns-then-has_site c = rw (lt-leb c.args.n c.args.p (omega arith), sym c.has_site.ensures ∙ c.if-has_site.true)

pub returns : goal.returns
unfolding first_cause
returns c = rw (lt-leb c.args.n c.args.p (omega arith), sym c.has_site.ensures ∙ c.if-has_site.false)
