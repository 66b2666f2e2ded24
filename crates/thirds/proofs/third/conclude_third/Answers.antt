-- `conclude_third` meets its contract.
-- Assumes nothing.
use Rattle.thirds.proofs.OnThird.{concluded_sent, concluded_pooled, concluded_heard}
use Rattle.thirds.proofs.third.conclude_third.Goals as goal

pub returns-then-majority : goal.returns-then-majority
returns-then-majority c =
    let a = c.args in
    let r = a.receipt in
    rw (concluded_sent a.setup a.board.now r.posting r.from r.to r.cut a.tally.heard a.tally.has a.tally.union _ c.reached.ensures c.if-reached.true _ c.majority.ensures c.if-majority.true)
    c.send_deliver.ensures

pub returns-then-reached : goal.returns-then-reached
returns-then-reached c =
    let a = c.args in
    let r = a.receipt in
    rw (concluded_pooled a.setup a.board.now r.posting r.from r.to r.cut a.tally.heard a.tally.has a.tally.union _ c.reached.ensures c.if-reached.true _ c.majority.ensures c.if-majority.false)
    c.send_entry.ensures

pub returns : goal.returns
returns c =
    let a = c.args in
    let r = a.receipt in
    rw (concluded_heard a.setup a.board.now r.posting r.from r.to r.cut a.tally.heard a.tally.has a.tally.union _ c.reached.ensures c.if-reached.false) c.hear_third.ensures
