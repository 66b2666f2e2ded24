-- `take_call` meets its contract.
-- Assumes nothing.
use Rattle.machine.specs.Runs.{taking}
use Rattle.by_value.proofs.run.take_call.Goals as goal

pub returns-in-Offer : goal.returns-in-Offer
unfolding taking
returns-in-Offer c = rw c.in-Offer.is c.offer.ensures.value

pub returns-in-Receive : goal.returns-in-Receive
unfolding taking
returns-in-Receive c = rw c.in-Receive.is c.receive.ensures.value

pub returns-in-Order : goal.returns-in-Order
unfolding taking
returns-in-Order c = rw c.in-Order.is c.order.ensures.value

pub returns-in-Read : goal.returns-in-Read
unfolding taking
returns-in-Read c = rw c.in-Read.is c.read.ensures.value

pub returns-in-Crash : goal.returns-in-Crash
unfolding taking
returns-in-Crash c = rw c.in-Crash.is c.crash.ensures.value
