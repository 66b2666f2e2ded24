-- `books::size_of_call` meets its contract: nothing at zero or below; above, the product fits.
-- Assumes nothing.
use mathlib.Core.Path.{◌≡◌, ◌∙◌, ap, sym}
use lib.IntN.{ℤ, pos, nat_abs, ◌*ℤ◌}
use lib.Signed.{lt_z}
use mir.Syntax.{w64}
use mir.Val.{SFits}
use mir.Facts.{to_z-of_z}
use Rattle.books.specs.Effect.{size_of_call}
use Rattle.books.proofs.Signed.{read_back, op_is}
use Rattle.books.proofs.size_of_call.Goals as goal

-- the definition's test is the code's
tested : (position : ℤ) → SFits w64 position → lt_z (pos 0) position ≡ lt_z (pos 0) (read_back position)
tested position fits = ap (λ (z : ℤ). lt_z (pos 0) z) (sym (to_z-of_z fits))

pub returns-then-position-gt0 : goal.returns-then-position-gt0
unfolding size_of_call
returns-then-position-gt0 c =
    let args = c.args in
    let size : c.size.result ≡ nat_abs (args.position *ℤ args.rate) = c.size.ensures ∙ ap nat_abs (op_is ◌*ℤ◌ args.position args.rate c.ranges.position c.ranges.rate c.requires) in
    rw (tested args.position c.ranges.position ∙ c.if-position-gt0.true, c.rounded_up.ensures, size)

pub returns-else-position-gt0 : goal.returns-else-position-gt0
unfolding size_of_call
returns-else-position-gt0 c = rw (tested c.args.position c.ranges.position ∙ c.if-position-gt0.false)
