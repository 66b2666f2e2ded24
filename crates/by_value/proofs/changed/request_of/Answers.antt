-- `request_of` meets its contract.
-- Assumes nothing.
use borrow.Author.Tests.{eq-eqb, ne_eqb}
use Rattle.decoder.specs.RunFile.{code_of}
use Rattle.by_value.specs.Changed.{request_of}
use Rattle.by_value.proofs.changed.request_of.Goals as goal

pub returns-then-event-eq-DRAIN : goal.returns-then-event-eq-DRAIN
unfolding request_of
returns-then-event-eq-DRAIN c = rw (eq-eqb (code_of c.args.event.now) 0 c.if-event-eq-DRAIN.true)

pub returns-then-event : goal.returns-then-event
unfolding request_of
returns-then-event c =
    let code = code_of c.args.event.now in
    rw (ne_eqb code 0 c.if-event-eq-DRAIN.false, eq-eqb code 255 c.if-event.true)

pub returns : goal.returns
unfolding request_of
returns c =
    let code = code_of c.args.event.now in
    rw (ne_eqb code 0 c.if-event-eq-DRAIN.false, ne_eqb code 255 c.if-event.false, c.call_of-call.ensures)
