-- `only_site` meets its contract.
-- Assumes nothing.
use Rattle.std.proofs.Common.{rules, tests, arith}
use borrow.Author.Tests.{lt-ltb}
use Rattle.sets.proofs.MaskLaws.{one_shl}
use Rattle.masks.specs.SiteMasks.{room, only_site}
use Rattle.masks.proofs.only_site.Goals as goal

pub returns-then-p-lt-SITES : goal.returns-then-p-lt-SITES
unfolding only_site
returns-then-p-lt-SITES c = rw (lt-ltb c.args.p room (omega arith)) (one_shl 8 c.args.p (omega arith))

pub returns-else-p-lt-SITES : goal.returns-else-p-lt-SITES
unfolding only_site
returns-else-p-lt-SITES c = search (tests, rules)
