-- `is_request` meets its contract.
-- Assumes nothing.
use lib.ListN.{length}
use borrow.Author.Tests.{eq-eqb, ne_eqb}
use Rattle.decoder.specs.RunFile.{code_of}
use Rattle.by_value.specs.Changed.{is_request}
use Rattle.by_value.proofs.changed.is_request.Goals as goal

pub returns-then-event-ne-EVENT : goal.returns-then-event-ne-EVENT
unfolding is_request
returns-then-event-ne-EVENT c = rw (ne_eqb (length c.args.event.now) 10 c.if-event-ne-EVENT.true)

pub returns-then-event-eq-DRAIN : goal.returns-then-event-eq-DRAIN
unfolding is_request
returns-then-event-eq-DRAIN c =
    let event = c.args.event.now in
    rw (eq-eqb (length event) 10 c.if-event-ne-EVENT.false, eq-eqb (code_of event) 0 c.if-event-eq-DRAIN.true)

pub returns-then-event : goal.returns-then-event
unfolding is_request
returns-then-event c =
    let event = c.args.event.now in
    rw (eq-eqb (length event) 10 c.if-event-ne-EVENT.false, ne_eqb (code_of event) 0 c.if-event-eq-DRAIN.false, eq-eqb (code_of event) 255 c.if-event.true)

pub returns : goal.returns
unfolding is_request
returns c =
    let event = c.args.event.now in
    rw (
      eq-eqb (length event) 10 c.if-event-ne-EVENT.false,
      ne_eqb (code_of event) 0 c.if-event-eq-DRAIN.false,
      ne_eqb (code_of event) 255 c.if-event.false,
      c.event_ok.ensures,
    )
