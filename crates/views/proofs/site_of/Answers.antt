-- `site_of` meets its contract.
-- Assumes nothing.
use Prim.Native.Nat.{◌+◌, ◌*◌}
use mathlib.Core.Path.{◌≡◌}
use native.Mathlib.Omega.{arith}
use Rattle.sets.specs.Sets.{capacity}
use Rattle.site.specs.Sites.{sites}
use Rattle.arrays.specs.Layout.{heard_at, good_at}
use Rattle.views.specs.Views.{site_of}
use Rattle.views.proofs.site_of.Goals as goal

pub returns : goal.returns
unfolding site_of
returns c =
    let p = c.args.p in
    let heard : heard_at p 0 ≡ 1 + 7 * capacity + p * capacity = omega arith in
    let good-at : good_at p 0 ≡ 1 + 7 * capacity + sites * capacity + p * capacity = omega arith in
    rw (
      c.record_of.ensures,
      c.column-2.ensures,
      c.column.ensures,
      c.load-5.ensures,
      c.load-4.ensures,
      c.load-3.ensures,
      c.load-2.ensures,
      c.load.ensures,
      heard,
      good-at,
    )
