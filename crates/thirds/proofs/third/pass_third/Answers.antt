-- `pass_third` meets its contract.
-- Assumes nothing.
use mathlib.Core.Path.{◌≡◌, refl}
use borrow.Author.Rules.{rules}
use Rattle.std.proofs.Common.{Err}
use Rattle.steps.proofs.Numbers.{is_refusal}
use Rattle.thirds.proofs.OnThird.{passed_refused, passed_done}
use Rattle.thirds.proofs.third.pass_third.Goals as goal

pub returns-in_err-consume : goal.returns-in_err-consume
returns-in_err-consume c =
    let a = c.args in
    let r = a.receipt in
    let why = c.in_err-consume.field-0.0 in
    let e : c.from_residual.result ≡ Err why = search rules in
    rw e (passed_refused a.setup a.board.now r.posting r.from r.to r.cut _ _ c.in_err-consume.ensures (is_refusal why))

pub returns : goal.returns
returns c =
    let a = c.args in
    let r = a.receipt in
    passed_done a.setup a.board.now r.posting r.from r.to r.cut _ c.consume.new.board _ _ c.in_ok-consume.ensures refl c.empty.ensures c.carry.ensures
