-- `look_up_sound` meets its contract.
-- Assumes nothing.
use mathlib.Core.Path.{ap, ◌∙◌}
use Rattle.machine.specs.Soundness.{is_sound}
use Rattle.lookups.proofs.Lookup.{may_look_up, gives_on}
use Rattle.lookups.proofs.look_up_sound.Goals as goal

pub look_up_at-requires : goal.look_up_at-requires
look_up_at-requires c =
    let laid = c.lay_out-arrays.ensures in
    may_look_up c.args.board.setup c.lay_out-arrays.result laid.1 (ap is_sound laid.0 ∙ c.requires)

pub returns : goal.returns
returns c =
    let laid = c.lay_out-arrays.ensures in
    let a = c.lay_out-arrays.result in
    let looked = c.look_up_at in
    let gives = gives_on looked.result.answer looked.result.visited looked.new.out c.args.pairs.now c.args.out.now laid.0
    (looked.ensures a.sets a.masks a.good a.carried (ap is_sound laid.0 ∙ c.requires)) in
    record { answer_value = gives.0; visited_value = gives.1; out_after = gives.2 }
