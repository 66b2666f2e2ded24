-- `product_fits` meets its contract: the product is formed only where it is a u64.
-- Assumes nothing.
use Prim.Native.Nat.{◌+◌, ◌<◌, ◌≤◌}
use mathlib.Core.Path.{◌≡◌, sym, ap, ◌∙◌}
use lib.Count.{count_leading_zeros}
use lib.IntN.{nat_abs}
use borrow.Author.Tests.{lt-leb}
use mir.Syntax.{w64}
use mir.Val.{Fits}
use mir.Facts.{to_z-of_z, Fits-nat_abs}
use Rattle.by_bytes.proofs.Products.{short_product, long_product, fits_short, fits_long}
use Rattle.by_bytes.proofs.product_fits.Goals as goal
use Rattle.by_bytes.proofs.product_fits.Goals.{After-size-q}

-- the two sizes, which are numbers of a u64
module _ (c : After-size-q) where
  position-size : c.size-p.result ≡ nat_abs c.args.position
  position-size = c.size-p.ensures ∙ ap nat_abs (to_z-of_z c.ranges.position)

  rate-size : c.size-q.result ≡ nat_abs c.args.rate
  rate-size = c.size-q.ensures ∙ ap nat_abs (to_z-of_z c.ranges.rate)

  position-fits : Fits w64 (nat_abs c.args.position)
  position-fits = Fits-nat_abs tt c.ranges.position

  rate-fits : Fits w64 (nat_abs c.args.rate)
  rate-fits = Fits-nat_abs tt c.ranges.rate

pub overflow_mul-result : goal.overflow_mul-result
overflow_mul-result c =
    let args = c.args in
    let many : 64 ≤ count_leading_zeros 64 (nat_abs args.position) + count_leading_zeros 64 (nat_abs args.rate) = rw (position-size (goal.at.overflow_mul-result c).After-size-q, rate-size (goal.at.overflow_mul-result c).After-size-q) at c.if-p-q-ge64.true in
    rw (position-size (goal.at.overflow_mul-result c).After-size-q, rate-size (goal.at.overflow_mul-result c).After-size-q)
    (record { fits = short_product (nat_abs args.position) (nat_abs args.rate) (position-fits (goal.at.overflow_mul-result c).After-size-q).fits (rate-fits (goal.at.overflow_mul-result c).After-size-q).fits many })

pub returns-then-p-q-ge64 : goal.returns-then-p-q-ge64
returns-then-p-q-ge64 c =
    rw (position-size (goal.at.returns-then-p-q-ge64 c).After-size-q, rate-size (goal.at.returns-then-p-q-ge64 c).After-size-q) (fits_short c.args.position c.args.rate)

pub returns-else-p-q-ge64 : goal.returns-else-p-q-ge64
returns-else-p-q-ge64 c =
    let args = c.args in
    let after = (goal.at.returns-else-p-q-ge64 c).After-size-q in
    let few : count_leading_zeros 64 (nat_abs args.position) + count_leading_zeros 64 (nat_abs args.rate) < 64 = rw (position-size after, rate-size after) at c.if-p-q-ge64.false in
    lt-leb 64 _ c.if-p-q-ge64.false
    ∙ sym
    (fits_long args.position args.rate
    (long_product (nat_abs args.position) (nat_abs args.rate) (position-fits after).fits (rate-fits after).fits few))
