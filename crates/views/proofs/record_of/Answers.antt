-- `record_of` meets its contract.
-- Assumes nothing.
use Prim.Native.Nat.{◌+◌, ◌*◌}
use mathlib.Core.Path.{◌≡◌}
use native.Mathlib.Omega.{arith}
use Rattle.sets.specs.Sets.{capacity}
use Rattle.site.specs.Sites.{sites}
use Rattle.arrays.specs.Layout.{record_at}
use Rattle.views.specs.Views.{record_in}
use Rattle.views.proofs.record_of.Goals as goal

pub returns : goal.returns
unfolding record_in
returns c =
    let p = c.args.p in
    let at : record_at p 0 ≡ 1 + 7 * capacity + 2 * (sites * capacity) + p * capacity = omega arith in
    rw (c.column.ensures, at)
