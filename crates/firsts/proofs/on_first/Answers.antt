-- `on_first` meets its contract.
-- Assumes nothing.
use mathlib.Core.Path.{◌≡◌, refl}
use borrow.Author.Rules.{rules}
use Rattle.std.proofs.Common.{Err}
use Rattle.steps.proofs.Numbers.{is_refusal}
use Rattle.firsts.proofs.OnFirst.{first_refused, first_done}
use Rattle.firsts.proofs.on_first.Goals as goal

pub returns-in_err-cut_allowed : goal.returns-in_err-cut_allowed
returns-in_err-cut_allowed c =
    let a = c.args in
    let r = a.receipt in
    let why = c.in_err-cut_allowed.field-0.0 in
    let e : c.from_residual.result ≡ Err why = search rules in
    rw e (first_refused a.setup a.board.now r.posting r.from r.to r.cut _ _ c.every_site-all.ensures c.in_err-cut_allowed.ensures (is_refusal why))

pub returns : goal.returns
returns c =
    let a = c.args in
    let r = a.receipt in
    first_done a.setup a.board.now r.posting r.from r.to r.cut _ _
    c.every_site-all.ensures c.in_ok-cut_allowed.ensures _ _ _ _ _ _ _ _ _ _ refl c.conflicts-against.ensures c.load-old.ensures
    c.with-seen.ensures c.alone-so.ensures c.sites_to-receivers.ensures c.store.ensures c.take_out.ensures c.send.ensures
    c.say.ensures c.mark.ensures
