-- `step_second` meets its contract.
-- Assumes nothing.
use mathlib.Core.Path.{◌≡◌, refl}
use borrow.Author.Rules.{rules}
use Rattle.std.proofs.Common.{Err}
use Rattle.steps.proofs.Numbers.{is_refusal}
use native.Mathlib.Omega.{arith}
use Rattle.sets.proofs.MaskLaws.{one_shl}
use Rattle.seconds.proofs.OnSecond.{step_refused, step_done}
use Rattle.seconds.proofs.second.step_second.Goals as goal

pub returns-in_err-cut_allowed : goal.returns-in_err-cut_allowed
returns-in_err-cut_allowed c =
    let a = c.args in
    let r = a.receipt in
    let why = c.in_err-cut_allowed.field-0.0 in
    let e : c.from_residual.result ≡ Err why = search rules in
    rw e
    (step_refused a.setup a.board.now r.posting r.from r.to r.cut a.heard.seconds a.heard.goods _ _ c.only_site-all.ensures
    c.in_err-cut_allowed.ensures (is_refusal why))

pub returns : goal.returns
returns c =
    let a = c.args in
    let r = a.receipt in
    let one = one_shl 8 r.to (omega arith) in
    step_done a.setup a.board.now r.posting r.from r.to r.cut a.heard.seconds a.heard.goods _ _ c.only_site-all.ensures
    c.in_ok-cut_allowed.ensures _ _ _ _ _ _ _ _ _ _ refl c.conflicts-against.ensures
    c.sites_to-receivers.ensures c.step_sets-held.ensures.value c.step_sets-held.ensures.words_after c.meet-share.ensures c.carry_to.ensures
    one c.say.ensures c.pass_on.ensures.bytes_after c.pass_on.ensures.masks_after
