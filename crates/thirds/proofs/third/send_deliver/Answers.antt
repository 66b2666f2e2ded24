-- `send_deliver` meets its contract.
-- Assumes nothing.
use mathlib.Core.Path.{◌≡◌, refl}
use borrow.Author.Rules.{rules}
use Rattle.std.proofs.Common.{Err}
use Rattle.steps.proofs.Numbers.{is_refusal}
use Rattle.thirds.proofs.OnThird.{sent_refused, sent_done}
use Rattle.thirds.proofs.third.send_deliver.Goals as goal

pub returns-in_err-cut_allowed : goal.returns-in_err-cut_allowed
returns-in_err-cut_allowed c =
    let a = c.args in
    let r = a.receipt in
    let why = c.in_err-cut_allowed.field-0.0 in
    let e : c.from_residual.result ≡ Err why = search rules in
    rw e (sent_refused a.setup a.board.now r.posting r.from r.to r.cut a.tally.heard a.tally.has a.tally.union _ _ c.every_site-all.ensures c.in_err-cut_allowed.ensures (is_refusal why))

pub returns : goal.returns
returns c =
    let a = c.args in
    let r = a.receipt in
    sent_done a.setup a.board.now r.posting r.from r.to r.cut a.tally.heard a.tally.has a.tally.union _ _ c.every_site-all.ensures c.in_ok-cut_allowed.ensures
    _ c.finish.new.board _ refl c.sites_to-receivers.ensures c.finish.ensures c.send.ensures
