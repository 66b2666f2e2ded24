-- `receive` meets its contract.
-- Assumes nothing.
use mathlib.Core.Path.{◌≡◌, refl, sym, ◌∙◌}
use borrow.Author.Rules.{rules}
use Rattle.std.proofs.Common.{Err}
use Rattle.steps.proofs.Numbers.{is_refusal}
use native.Mathlib.Omega.{arith}
use Rattle.calls.proofs.Passed.{message_below}
use Rattle.events.proofs.OnReceive.{in_place, receive_refused, receive_none, is_first, is_second, is_third, is_deliver}
use Rattle.events.proofs.receipts.receive.Goals as goal

pub returns-in_err-message_arrives : goal.returns-in_err-message_arrives
returns-in_err-message_arrives c =
    let a = c.args in
    let r = a.receipt in
    let why = c.in_err-message_arrives.field-0.0 in
    let e : c.from_residual.result ≡ Err why = search rules in
    rw e (receive_refused a.setup a.board.now a.form r.posting r.from r.to r.cut _ c.in_err-message_arrives.ensures (is_refusal why))

pub is_sent-requires : goal.is_sent-requires
is_sent-requires c = message_below _ _ _ _ _ c.requires c.in_ok-message_arrives.ensures refl

pub returns-then-not-is_sent : goal.returns-then-not-is_sent
returns-then-not-is_sent c =
    let a = c.args in
    let r = a.receipt in
    receive_none a.setup a.board.now a.form r.posting r.from r.to r.cut _ c.in_ok-message_arrives.ensures refl (sym c.is_sent.ensures ∙ c.if-not-is_sent.true)

pub on_first-requires : goal.on_first-requires
on_first-requires c =
    let a = c.args in
    let r = a.receipt in
    in_place a.board.now.masks a.form r.posting r.from r.to (sym c.is_sent.ensures ∙ c.if-not-is_sent.false)

pub returns-in-0 : goal.returns-in-0
returns-in-0 c =
    let a = c.args in
    let r = a.receipt in
    rw (is_first a.setup a.board.now a.form r.posting r.from r.to r.cut _ c.in_ok-message_arrives.ensures refl (sym c.is_sent.ensures ∙ c.if-not-is_sent.false) c.in-0.is) c.on_first.ensures

pub on_second-requires : goal.on_second-requires
on_second-requires c =
    let a = c.args in
    let r = a.receipt in
    in_place a.board.now.masks a.form r.posting r.from r.to (sym c.is_sent.ensures ∙ c.if-not-is_sent.false)

pub returns-in-1 : goal.returns-in-1
returns-in-1 c =
    let a = c.args in
    let r = a.receipt in
    rw (is_second a.setup a.board.now a.form r.posting r.from r.to r.cut _ c.in_ok-message_arrives.ensures refl (sym c.is_sent.ensures ∙ c.if-not-is_sent.false) c.in-1.is) c.on_second.ensures

pub on_third-requires : goal.on_third-requires
on_third-requires c =
    let a = c.args in
    let r = a.receipt in
    in_place a.board.now.masks a.form r.posting r.from r.to (sym c.is_sent.ensures ∙ c.if-not-is_sent.false)

pub returns-in-2 : goal.returns-in-2
returns-in-2 c =
    let a = c.args in
    let r = a.receipt in
    rw (is_third a.setup a.board.now a.form r.posting r.from r.to r.cut _ c.in_ok-message_arrives.ensures refl (sym c.is_sent.ensures ∙ c.if-not-is_sent.false) c.in-2.is) c.on_third.ensures

pub on_deliver-requires : goal.on_deliver-requires
on_deliver-requires c =
    let a = c.args in
    let r = a.receipt in
    in_place a.board.now.masks a.form r.posting r.from r.to (sym c.is_sent.ensures ∙ c.if-not-is_sent.false)

pub returns-in_default : goal.returns-in_default
returns-in_default c =
    let a = c.args in
    let r = a.receipt in
    rw (is_deliver a.setup a.board.now a.form r.posting r.from r.to r.cut _ c.in_ok-message_arrives.ensures refl (sym c.is_sent.ensures ∙ c.if-not-is_sent.false) (omega arith) (omega arith) (omega arith)) c.on_deliver.ensures
