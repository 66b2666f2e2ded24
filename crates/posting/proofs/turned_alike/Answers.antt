-- `turned_alike` meets its contract.
-- Assumes nothing.
use Rattle.std.proofs.Common.{rules, tests}
use Rattle.posting.specs.Kinds.{turned_alike}
use Rattle.posting.proofs.turned_alike.Goals as goal

pub returns : goal.returns
unfolding turned_alike
returns c = search (tests, rules)
