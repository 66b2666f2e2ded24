-- `books::change` meets its contract: each arm has its kind.
-- Assumes nothing.
use Rattle.std.proofs.Common.{rules, tests}
use Rattle.books.specs.Effect.{change}
use Rattle.books.proofs.change.Goals as goal

pub returns-in-0 : goal.returns-in-0
unfolding change
returns-in-0 c = rw c.in-0.is c.trade.ensures

pub returns-in-1 : goal.returns-in-1
unfolding change
returns-in-1 c = rw c.in-1.is c.rate.ensures

pub returns-in-2 : goal.returns-in-2
unfolding change
returns-in-2 c = rw c.in-2.is c.call.ensures

pub returns-in-3 : goal.returns-in-3
unfolding change
returns-in-3 c = rw c.in-3.is c.net.ensures

pub returns-in_default : goal.returns-in_default
unfolding change
returns-in_default c = search (tests, rules)
