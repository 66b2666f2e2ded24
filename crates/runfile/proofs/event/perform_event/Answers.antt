-- `perform_event` meets its contract.
-- Assumes nothing.
use mathlib.Core.Path.{ap, ◌∙◌}
use Rattle.flat.specs.Flat.{flat_perform}
use Rattle.runfile.proofs.Events.{received}
use Rattle.runfile.proofs.event.perform_event.Goals as goal

pub receive-requires : goal.receive-requires
receive-requires c = c.requires.0

pub returns-then-byte_at-eq-RECEIVE : goal.returns-then-byte_at-eq-RECEIVE
returns-then-byte_at-eq-RECEIVE c =
    c.receive.ensures
    ∙ received c.args.setup c.args.board.now c.args.event.now _ _ _ _ _ _ _ c.byte_at.ensures c.if-byte_at-eq-RECEIVE.true c.byte_at-form.ensures
    c.byte_at-posting.ensures c.byte_at-from.ensures c.byte_at-to.ensures c.byte_at-then-byte_at-eq-RECEIVE.ensures c.cut_of-cut.ensures

pub returns : goal.returns
returns c = c.perform.ensures ∙ ap (flat_perform c.args.setup c.args.board.now) c.call_of.ensures
