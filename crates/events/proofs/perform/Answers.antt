-- `perform` meets its contract.
-- Assumes nothing.
use Rattle.flat.specs.Flat.{flat_perform}
use Rattle.events.proofs.perform.Goals as goal

pub returns-in-Offer : goal.returns-in-Offer
unfolding flat_perform
returns-in-Offer c = rw c.in-Offer.is c.offer.ensures

pub returns-in-Receive : goal.returns-in-Receive
unfolding flat_perform
returns-in-Receive c = rw c.in-Receive.is c.receive.ensures

pub returns-in-Order : goal.returns-in-Order
unfolding flat_perform
returns-in-Order c = rw c.in-Order.is c.order.ensures

pub returns-in-Read : goal.returns-in-Read
unfolding flat_perform
returns-in-Read c = rw c.in-Read.is c.read.ensures

pub returns-in-Crash : goal.returns-in-Crash
unfolding flat_perform
returns-in-Crash c = rw c.in-Crash.is c.crash.ensures
