-- `size_of_call` meets its contract.
-- Assumes nothing.
use mathlib.Core.Path.{◌≡◌, sym, ap₂, ◌∙◌}
use lib.IntN.{nat_abs, ◌*ℤ◌}
use mir.Facts.{to_z-of_z}
use borrow.Author.Tests.{ltb-true}
use Rattle.books.specs.Effect.{size_of_call}
use Rattle.by_bytes.specs.Answers.{product_fits, size_answer}
use Rattle.by_bytes.proofs.size_of_call.Goals as goal
use Rattle.by_bytes.proofs.size_of_call.Goals.{After-product_fits}

tested : (c : After-product_fits) → c.product_fits.result ≡ product_fits c.args.position c.args.rate
tested c = c.product_fits.ensures ∙ ap₂ product_fits (to_z-of_z c.ranges.position) (to_z-of_z c.ranges.rate)

pub size_of_call-requires : goal.size_of_call-requires
unfolding product_fits
size_of_call-requires c =
    rw (to_z-of_z c.ranges.position, to_z-of_z c.ranges.rate)
    (ltb-true (nat_abs (c.args.position *ℤ c.args.rate)) 9223372036854775808 (sym (tested (goal.at.size_of_call-requires c).After-product_fits) ∙ c.if-product_fits.true))

pub returns-then-product_fits : goal.returns-then-product_fits
unfolding size_answer
returns-then-product_fits c =
    rw (sym (tested (goal.at.returns-then-product_fits c).After-product_fits) ∙ c.if-product_fits.true)
    (c.size_of_call.ensures ∙ ap₂ size_of_call (to_z-of_z c.ranges.position) (to_z-of_z c.ranges.rate))

pub returns-else-product_fits : goal.returns-else-product_fits
unfolding size_answer
returns-else-product_fits c = rw (sym (tested (goal.at.returns-else-product_fits c).After-product_fits) ∙ c.if-product_fits.false)
