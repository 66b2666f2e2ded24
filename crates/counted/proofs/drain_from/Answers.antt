-- `drain_from` meets its contract.
-- Assumes nothing.
use Rattle.decoder.specs.RunFile.{calls_of}
use Rattle.counted.proofs.AfterDrain.{no_room, all_done}
use Rattle.counted.proofs.drain_from.Goals as goal

pub returns-then-left-ne0 : goal.returns-then-left-ne0
returns-then-left-ne0 c =
    let g = c.args in
    let done = c.run_and_drain-left in let shown = no_room g.setup (calls_of g.input.now) g.limit g.out.now _ _ _ done.ensures.count_value done.ensures.why_value done.ensures.out_after c.if-left-ne0.true in record { value = shown.0; out_after = shown.1 }

pub returns : goal.returns
returns c =
    let g = c.args in
    let done = c.run_and_drain-left in let shown = all_done g.setup (calls_of g.input.now) g.limit g.out.now _ _ _ done.ensures.count_value done.ensures.why_value done.ensures.out_after c.if-left-ne0.false in record { value = shown.0; out_after = shown.1 }
