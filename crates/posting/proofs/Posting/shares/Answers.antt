-- `shares` meets its contract: the accounts of one posting are tried on the other.
-- Assumes nothing.
use Rattle.std.proofs.Common.{rules, tests}
use mathlib.Core.Path.{sym, ◌∙◌}
use Rattle.posting.proofs.ConflictLaws.{shares_fields, shares_all}
use Rattle.posting.proofs.Posting.shares.Goals as goal

pub returns-then-net_of_all : goal.returns-then-net_of_all
returns-then-net_of_all c = c.touches_some.ensures ∙ sym (shares_all c.args.self c.args.other (sym c.net_of_all.ensures ∙ c.if-net_of_all.true))

pub returns-then-touches : goal.returns-then-touches
returns-then-touches c = rw (shares_fields c.args.self c.args.other (sym c.net_of_all.ensures ∙ c.if-net_of_all.false)) (search (tests, rules))

pub returns-else-touches : goal.returns-else-touches
returns-else-touches c = rw (shares_fields c.args.self c.args.other (sym c.net_of_all.ensures ∙ c.if-net_of_all.false)) (search (tests, rules))
