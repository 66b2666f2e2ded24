-- `same_account` meets its contract.
-- Assumes nothing.
use mathlib.Core.Path.{◌≡◌, ap₂, ◌∙◌, sym}
use mathlib.Core.Bool.{true, false}
use Rattle.amounts.specs.Amounts.{same_number}
use Rattle.amounts.proofs.Figures.{read_is}
use Rattle.statements.specs.Table.{same_account}
use Rattle.statements.proofs.same.same_account.Goals as goal

pub returns-then-not-same_number : goal.returns-then-not-same_number
unfolding same_account
returns-then-not-same_number c =
    let args = c.args in
    let position : same_number args.a.position args.b.position ≡ false = sym (c.same_number.ensures ∙ ap₂ same_number (read_is c.args.a.position c.struct_told-1.given.0.1) (read_is c.args.b.position c.struct_told-2-1.given.0.1)) ∙ c.if-not-same_number.true in
    rw (position)

pub returns-then-not-same_number-2 : goal.returns-then-not-same_number-2
unfolding same_account
returns-then-not-same_number-2 c =
    let args = c.args in
    let position : same_number args.a.position args.b.position ≡ true = sym (c.same_number.ensures ∙ ap₂ same_number (read_is c.args.a.position c.struct_told-1.given.0.1) (read_is c.args.b.position c.struct_told-2-1.given.0.1)) ∙ c.if-not-same_number.false in
    let rate : same_number args.a.rate args.b.rate ≡ false = sym (c.same_number-2.ensures ∙ ap₂ same_number (read_is c.args.a.rate c.struct_told-3-1.given.1.0.1) (read_is c.args.b.rate c.struct_told-4-1.given.1.0.1)) ∙ c.if-not-same_number-2.true in
    rw (position, rate)

pub returns-then-not-same_number-3 : goal.returns-then-not-same_number-3
unfolding same_account
returns-then-not-same_number-3 c =
    let args = c.args in
    let position : same_number args.a.position args.b.position ≡ true = sym (c.same_number.ensures ∙ ap₂ same_number (read_is c.args.a.position c.struct_told-1.given.0.1) (read_is c.args.b.position c.struct_told-2-1.given.0.1)) ∙ c.if-not-same_number.false in
    let rate : same_number args.a.rate args.b.rate ≡ true = sym (c.same_number-2.ensures ∙ ap₂ same_number (read_is c.args.a.rate c.struct_told-3-1.given.1.0.1) (read_is c.args.b.rate c.struct_told-4-1.given.1.0.1)) ∙ c.if-not-same_number-2.false in
    let called : same_number args.a.called args.b.called ≡ false = sym (c.same_number-3.ensures ∙ ap₂ same_number (read_is c.args.a.called c.struct_told-5-1.given.1.1.0.1) (read_is c.args.b.called c.struct_told-6-1.given.1.1.0.1)) ∙ c.if-not-same_number-3.true in
    rw (position, rate, called)

pub returns : goal.returns
unfolding same_account
returns c =
    let args = c.args in
    let position : same_number args.a.position args.b.position ≡ true = sym (c.same_number.ensures ∙ ap₂ same_number (read_is c.args.a.position c.struct_told-1.given.0.1) (read_is c.args.b.position c.struct_told-2-1.given.0.1)) ∙ c.if-not-same_number.false in
    let rate : same_number args.a.rate args.b.rate ≡ true = sym (c.same_number-2.ensures ∙ ap₂ same_number (read_is c.args.a.rate c.struct_told-3-1.given.1.0.1) (read_is c.args.b.rate c.struct_told-4-1.given.1.0.1)) ∙ c.if-not-same_number-2.false in
    let called : same_number args.a.called args.b.called ≡ true = sym (c.same_number-3.ensures ∙ ap₂ same_number (read_is c.args.a.called c.struct_told-5-1.given.1.1.0.1) (read_is c.args.b.called c.struct_told-6-1.given.1.1.0.1)) ∙ c.if-not-same_number-3.false in
    rw (position, rate, called) (c.same_number-4.ensures ∙ ap₂ same_number (read_is c.args.a.settled c.struct_told-7-1.given.1.1.1.0.1) (read_is c.args.b.settled c.struct_told-8-1.given.1.1.1.0.1))
