-- `fields_after` meets its contract.
-- Rests on EntryLaws. Assumes nothing.
use mathlib.Core.Path.{sym}
use native.Mathlib.Omega.{arith}
use Rattle.audit_files.proofs.EntryLaws.{whole_all, no_kind, no_a, no_b, no_amount, fields_are}
use Rattle.audit_files.proofs.entries.fields_after.Goals as goal

pub returns-in_err-kind : goal.returns-in_err-kind
returns-in_err-kind c =
    rw (c.from_residual.ensures, fields_are c.args.number c.args.line.now c.parted.ensures.ahead c.parted.ensures.behind c.parted-2.ensures.ahead c.parted-2.ensures.behind c.parted-3.ensures.ahead c.parted-3.ensures.behind)
    (sym (no_kind _ _ _ _ _ (sym c.in_err-kind.ensures.value)))

pub returns-in_err-a : goal.returns-in_err-a
returns-in_err-a c =
    rw (c.from_residual-in_err-a.ensures, fields_are c.args.number c.args.line.now c.parted.ensures.ahead c.parted.ensures.behind c.parted-2.ensures.ahead c.parted-2.ensures.behind c.parted-3.ensures.ahead c.parted-3.ensures.behind)
    (sym (no_a _ _ _ _ _ (sym c.in_err-a.ensures.value)))

pub returns-in_err-b : goal.returns-in_err-b
returns-in_err-b c =
    rw (c.from_residual-in_err-b.ensures, fields_are c.args.number c.args.line.now c.parted.ensures.ahead c.parted.ensures.behind c.parted-2.ensures.ahead c.parted-2.ensures.behind c.parted-3.ensures.ahead c.parted-3.ensures.behind)
    (sym (no_b _ _ _ _ _ (sym c.in_err-b.ensures.value)))

pub returns-in_err-amount : goal.returns-in_err-amount
returns-in_err-amount c =
    rw (c.from_residual-in_err-amount.ensures, fields_are c.args.number c.args.line.now c.parted.ensures.ahead c.parted.ensures.behind c.parted-2.ensures.ahead c.parted-2.ensures.behind c.parted-3.ensures.ahead c.parted-3.ensures.behind)
    (sym (no_amount _ _ _ _ _ (sym c.in_err-amount.ensures.value)))

pub returns : goal.returns
returns c =
    let kind = c.in_ok-kind.ensures in
    let a = c.in_ok-a.ensures in
    let b = c.in_ok-b.ensures in
    let amount = c.in_ok-amount.ensures in
    rw (fields_are c.args.number c.args.line.now c.parted.ensures.ahead c.parted.ensures.behind c.parted-2.ensures.ahead c.parted-2.ensures.behind c.parted-3.ensures.ahead c.parted-3.ensures.behind, ← kind.value, ← a.value, ← b.value, ← amount.value)
    (sym (whole_all _ _ _ _ _ (omega arith) (omega (arith, kind.bound)) (omega (arith, a.bound)) (omega (arith, b.bound)) (omega (arith, amount.bound))))
