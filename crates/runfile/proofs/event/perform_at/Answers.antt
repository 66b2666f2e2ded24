-- `perform_at` meets its contract.
-- Assumes nothing.
use mathlib.Core.Path.{ap, ◌∙◌}
use Rattle.flat.specs.Flat.{flat_perform}
use Rattle.decoder.specs.RunFile.{call_of}
use Rattle.decoder.proofs.Events.{event_part}
use Rattle.runfile.proofs.Events.{call_within, call_past}
use Rattle.runfile.proofs.event.perform_at.Goals as goal

pub returns-then-k-event_count : goal.returns-then-k-event_count
returns-then-k-event_count c =
    let g = c.args in
    let call = ap call_of (event_part g.input.now g.k) ∙ call_within g.input.now g.k _ c.event_count.ensures c.if-k-event_count.true in
    c.perform_event.ensures ∙ ap (flat_perform g.setup g.board.now) call

pub returns : goal.returns
unfolding flat_perform
returns c =
    let g = c.args in
    c.crash.ensures ∙ ap (flat_perform g.setup g.board.now) (call_past g.input.now g.k _ c.event_count.ensures c.if-k-event_count.false)
