-- `books::size` meets its contract.
-- Assumes nothing.
use Rattle.std.proofs.Common.{rules, tests}
use Rattle.books.proofs.size.Goals as goal

pub returns : goal.returns
returns c = search (tests, rules)
