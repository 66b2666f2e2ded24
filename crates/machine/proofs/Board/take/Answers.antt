-- `take` meets its contract.
-- Assumes nothing.
use mathlib.Core.Path.{ap, ◌∙◌}
use Rattle.machine.specs.Soundness.{is_sound}
use Rattle.machine.proofs.Gives.{few_sites}
use Rattle.machine.proofs.Performed.{log_fits}
use Rattle.machine.proofs.Answered.{taken_call}
use Rattle.machine.proofs.Board.take.Goals as goal

pub perform-answer-requires : goal.perform-answer-requires
perform-answer-requires c =
    let laid = c.lay_out-arrays.ensures in
    let setup = c.args.self.setup in
    let sound = ap is_sound laid.0 ∙ c.requires in
    (few_sites setup _ laid.1 sound, log_fits setup _ laid.1 sound)

pub returns : goal.returns
returns c =
    let laid = c.lay_out-arrays.ensures in
    let taken = taken_call c.args.self _ _ c.args.call _ c.requires laid.0 laid.1 c.perform-answer.ensures _ c.board_of.ensures in
    record { board_value = taken.0; answer_value = taken.1 }
