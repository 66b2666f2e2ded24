-- `effect_on` meets its contract.
-- Assumes nothing.
use mathlib.Core.Path.{sym, ◌∙◌}
use Rattle.books.specs.Effect.{effect}
use Rattle.by_bytes.proofs.effect_on.Goals as goal

pub returns-then-touches : goal.returns-then-touches
unfolding effect
returns-then-touches c = rw (sym c.touches.ensures ∙ c.if-touches.true) c.change.ensures

pub returns-else-touches : goal.returns-else-touches
unfolding effect
returns-else-touches c = rw (sym c.touches.ensures ∙ c.if-touches.false)
