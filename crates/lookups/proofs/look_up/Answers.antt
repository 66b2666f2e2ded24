-- `look_up` meets its contract.
-- Assumes nothing.
use mathlib.Core.Path.{sym, ap, ◌∙◌}
use Rattle.machine.specs.Calls.{answer_of}
use Rattle.lookups.proofs.Lookup.{unsound_gives}
use Rattle.lookups.proofs.look_up.Goals as goal

pub look_up_sound-requires : goal.look_up_sound-requires
look_up_sound-requires c = sym c.is_sound.ensures ∙ c.if-is_sound.true

pub returns-then-is_sound : goal.returns-then-is_sound
returns-then-is_sound c =
    let looked = c.look_up_sound.ensures in
    record { answer_value = looked.answer_value; visited_value = looked.visited_value; out_after = looked.out_after; answer_value_2 = ap answer_of looked.answer_value }

pub returns : goal.returns
returns c =
    let args = c.args in
    let refused = unsound_gives args.board args.pairs.now args.out.now (sym c.is_sound.ensures ∙ c.if-is_sound.false) in
    rw c.number.ensures (record { answer_value = refused.0; visited_value = refused.1; out_after = refused.2; answer_value_2 = ap answer_of refused.0 })
