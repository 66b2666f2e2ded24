-- `count_or` meets its contract.
-- Assumes nothing.
use Prim.Native.Nat.{◌<◌}
use borrow.Author.Rules.{rules}
use Rattle.run_lookups.proofs.LookedLaws.{count_done, count_refused}
use Rattle.run_lookups.proofs.count_or.Goals as goal

pub returns-then-why-eq0 : goal.returns-then-why-eq0
returns-then-why-eq0 c = count_done c.args.why c.args.count c.if-why-eq0.true

pub returns : goal.returns
returns c =
    let small : c.args.why < 256 = search rules in
    count_refused c.args.why c.args.count c.if-why-eq0.false small
