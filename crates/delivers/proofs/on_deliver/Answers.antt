-- `on_deliver` meets its contract.
-- Assumes nothing.
use mathlib.Core.Path.{◌≡◌, refl}
use borrow.Author.Rules.{rules}
use Rattle.std.proofs.Common.{Err}
use Rattle.steps.proofs.Numbers.{is_refusal}
use Rattle.delivers.proofs.OnDeliver.{deliver_known, deliver_refused, deliver_done}
use Rattle.delivers.proofs.on_deliver.Goals as goal

pub returns-then-has_in : goal.returns-then-has_in
returns-then-has_in c =
    let a = c.args in
    let r = a.receipt in
    rw (deliver_known a.setup a.board.now r.posting r.from r.to r.cut _ c.has_in.ensures c.if-has_in.true) c.consume.ensures

pub returns-in_err-cut_allowed : goal.returns-in_err-cut_allowed
returns-in_err-cut_allowed c =
    let a = c.args in
    let r = a.receipt in
    let why = c.in_err-cut_allowed.field-0.0 in
    let e : c.from_residual.result ≡ Err why = search rules in
    rw e
    (deliver_refused a.setup a.board.now r.posting r.from r.to r.cut _ c.has_in.ensures c.if-has_in.false _ _ c.relay_to-all.ensures c.in_err-cut_allowed.ensures (is_refusal why))

pub returns : goal.returns
returns c =
    let a = c.args in
    let r = a.receipt in
    deliver_done a.setup a.board.now r.posting r.from r.to r.cut _ c.has_in.ensures c.if-has_in.false _ _ c.relay_to-all.ensures c.in_ok-cut_allowed.ensures
    _ _ _ _ _ _ refl c.sites_to-receivers.ensures c.add_to.ensures c.take_out.ensures c.send.ensures
    c.mark.ensures c.deliver_to.ensures
