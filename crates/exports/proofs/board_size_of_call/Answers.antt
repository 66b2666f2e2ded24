-- `board_size_of_call` meets its contract.
-- Assumes nothing.
use mathlib.Core.Path.{ap₂, ◌∙◌}
use mir.Facts.{to_z-of_z}
use Rattle.by_bytes.specs.Answers.{size_answer}
use Rattle.exports.proofs.board_size_of_call.Goals as goal

pub returns : goal.returns
returns c =
    c.size_of_call.ensures
    ∙ ap₂ size_answer (to_z-of_z c.ranges.position) (to_z-of_z c.ranges.rate)
