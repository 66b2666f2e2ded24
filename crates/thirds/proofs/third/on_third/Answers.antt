-- `on_third` meets its contract.
-- Assumes nothing.
use Rattle.thirds.proofs.OnThird.{third_late, third_concluded}
use Rattle.thirds.proofs.third.on_third.Goals as goal

pub returns-then-late : goal.returns-then-late
returns-then-late c =
    let a = c.args in
    let r = a.receipt in
    rw (third_late a.setup a.board.now r.posting r.from r.to r.cut _ _ c.has_in-done.ensures c.late.ensures c.if-late.true) c.pass_third.ensures

pub returns : goal.returns
returns c =
    let a = c.args in
    let r = a.receipt in
    rw (third_concluded a.setup a.board.now r.posting r.from r.to r.cut _ _
    c.has_in-done.ensures c.late.ensures _ _ _ _ _ _ c.if-late.false c.carried_set-set.ensures
    c.with_site-heard.ensures c.has-holds.ensures c.with_site_if-has.ensures c.load-old.ensures c.join-union.ensures)
    c.conclude_third.ensures
