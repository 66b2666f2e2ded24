-- `every_site` meets its contract.
-- Assumes nothing.
use Rattle.std.proofs.Common.{rules, tests, arith}
use Prim.Native.Nat.{ℕ, ◌-◌}
use mathlib.Core.Path.{ap}
use borrow.Author.Tests.{lt-ltb}
use Rattle.sets.proofs.MaskLaws.{one_shl}
use Rattle.masks.specs.SiteMasks.{room, every_site}
use Rattle.masks.proofs.every_site.Goals as goal

pub returns-then-n-lt-SITES : goal.returns-then-n-lt-SITES
unfolding every_site
returns-then-n-lt-SITES c = rw (lt-ltb c.args.n room (omega arith)) (ap (λ (x : ℕ). x - 1) (one_shl 8 c.args.n (omega arith)))

pub returns-else-n-lt-SITES : goal.returns-else-n-lt-SITES
unfolding every_site
returns-else-n-lt-SITES c = search (tests, rules)
