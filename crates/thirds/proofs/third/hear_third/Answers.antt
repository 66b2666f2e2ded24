-- `hear_third` meets its contract.
-- Assumes nothing.
use mathlib.Core.Path.{◌≡◌, refl}
use borrow.Author.Rules.{rules}
use Rattle.std.proofs.Common.{Err}
use Rattle.steps.proofs.Numbers.{is_refusal}
use Rattle.thirds.proofs.OnThird.{heard_refused, heard_done}
use Rattle.thirds.proofs.third.hear_third.Goals as goal

pub returns-in_err-pass_third : goal.returns-in_err-pass_third
returns-in_err-pass_third c =
    let a = c.args in
    let r = a.receipt in
    let why = c.in_err-pass_third.field-0.0 in
    let e : c.from_residual.result ≡ Err why = search rules in
    rw e (heard_refused a.setup a.board.now r.posting r.from r.to r.cut a.tally.heard a.tally.has a.tally.union _ _ c.in_err-pass_third.ensures (is_refusal why))

pub returns : goal.returns
returns c =
    let a = c.args in
    let r = a.receipt in
    heard_done a.setup a.board.now r.posting r.from r.to r.cut a.tally.heard a.tally.has a.tally.union _ c.pass_third.new.board _ _ c.in_ok-pass_third.ensures refl c.note_tally.ensures c.store.ensures
