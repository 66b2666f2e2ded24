-- `on_second` meets its contract.
-- Assumes nothing.
use Rattle.seconds.proofs.OnSecond.{second_late, second_steps, second_heard}
use Rattle.seconds.proofs.second.on_second.Goals as goal

pub returns-then-late : goal.returns-then-late
returns-then-late c =
    let a = c.args in
    let r = a.receipt in
    rw (second_late a.setup a.board.now r.posting r.from r.to r.cut _ _ c.has_in-done.ensures c.late.ensures c.if-late.true)
    c.pass_second.ensures

pub returns-then-reached : goal.returns-then-reached
returns-then-reached c =
    let a = c.args in
    let r = a.receipt in
    rw (second_steps a.setup a.board.now r.posting r.from r.to r.cut _ _ c.has_in-done.ensures c.late.ensures c.if-late.false _ _ _
    c.with_site-seconds.ensures c.is_good-so.ensures c.with_site_if-goods.ensures _ c.reached.ensures c.if-reached.true)
    c.step_second.ensures

pub returns : goal.returns
returns c =
    let a = c.args in
    let r = a.receipt in
    rw (second_heard a.setup a.board.now r.posting r.from r.to r.cut _ _ c.has_in-done.ensures c.late.ensures c.if-late.false _ _ _
    c.with_site-seconds.ensures c.is_good-so.ensures c.with_site_if-goods.ensures _ c.reached.ensures c.if-reached.false)
    c.hear_second.ensures
