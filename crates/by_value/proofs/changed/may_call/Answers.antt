-- `may_call` meets its contract.
-- Assumes nothing.
use mathlib.Core.Path.{sym, ◌∙◌}
use Rattle.sets.proofs.Truth.{never}
use Rattle.by_value.specs.Changed.{may_call}
use Rattle.by_value.proofs.changed.may_call.Goals.{then-well_formed, else-well_formed}
use Rattle.by_value.proofs.changed.may_call.Goals as goal

pub returns-then-is_request : goal.returns-then-is_request
unfolding may_call
returns-then-is_request c =
    elim c.if-well_formed.branch [
      | then-well_formed w ↦
          rw (sym c.well_formed-2.ensures ∙ w.if-well_formed.true, sym w.is_request.ensures ∙ sym w.value-is ∙ c.if-is_request.true)
      | else-well_formed w ↦ absurd (never (sym w.value-is ∙ c.if-is_request.true) w.if-well_formed.false)
    ]

pub returns-else-is_request : goal.returns-else-is_request
unfolding may_call
returns-else-is_request c =
    elim c.if-well_formed.branch [
      | then-well_formed w ↦
          rw (sym c.well_formed-2.ensures ∙ w.if-well_formed.true, sym w.is_request.ensures ∙ sym w.value-is ∙ c.if-is_request.false, c.if-is_request.false)
      | else-well_formed w ↦ rw (sym c.well_formed-2.ensures ∙ w.if-well_formed.false, c.if-is_request.false)
    ]
