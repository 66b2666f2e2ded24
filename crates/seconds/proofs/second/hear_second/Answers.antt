-- `hear_second` meets its contract.
-- Assumes nothing.
use mathlib.Core.Path.{◌≡◌, refl}
use borrow.Author.Rules.{rules}
use Rattle.std.proofs.Common.{Err}
use Rattle.steps.proofs.Numbers.{is_refusal}
use Rattle.seconds.proofs.OnSecond.{heard_refused, heard_done}
use Rattle.seconds.proofs.second.hear_second.Goals as goal

pub returns-in_err-pass_second : goal.returns-in_err-pass_second
returns-in_err-pass_second c =
    let a = c.args in
    let r = a.receipt in
    let why = c.in_err-pass_second.field-0.0 in
    let e : c.from_residual.result ≡ Err why = search rules in
    rw e (heard_refused a.setup a.board.now r.posting r.from r.to r.cut a.heard.seconds a.heard.goods _ _ c.in_err-pass_second.ensures (is_refusal why))

pub returns : goal.returns
returns c =
    let a = c.args in
    let r = a.receipt in
    heard_done a.setup a.board.now r.posting r.from r.to r.cut a.heard.seconds a.heard.goods _ c.pass_second.new.board _
    c.in_ok-pass_second.ensures refl c.note_heard.ensures
