-- `drain_board` meets its contract.
-- Assumes nothing.
use mathlib.Core.Path.{refl}
use mathlib.Core.Bool.{false}
use Rattle.sets.proofs.Truth.{never}
use Rattle.machine.proofs.Typed.{is_board}
use Rattle.machine.proofs.SoundTest.{sound_facts}
use Rattle.invariants.proofs.Reached.{GoodIf}
use Rattle.drain.proofs.Loop.{handed_back}
use Rattle.drain.proofs.drain_board.Goals as goal

pub drain_events-done-requires : goal.drain_events-done-requires
drain_events-done-requires c =
    let laid = c.lay_out-arrays.ensures in
    let b = c.args.board in
    let shape = is_board b _ c.well_formed.0 in
    let good : GoodIf false b = record { shape = shape; sound = sound_facts b shape.flight.masks.long c.requires; blank = λ e. absurd (never e refl) } in
    (laid.1, rw laid.0 good)

pub returns : goal.returns
returns c =
    let laid = c.lay_out-arrays.ensures in
    let drained = c.drain_events-done.ensures in
    handed_back c.args.board.setup _ _ c.args.board _ c.args.limit _ _ laid.0 c.board_of-after.ensures drained.carried_after drained.count_value drained.ending_value
