-- `is_blank` meets its contract.
-- Assumes nothing.
use Prim.Native.Nat.{ℕ}
use mathlib.Core.Path.{◌≡◌, ap, ◌∙◌}
use mathlib.Core.Bool.{true, false}
use lib.Dec.{eqb}
use lib.IntN.{nat_abs}
use Rattle.amounts.specs.Amounts.{is_zero}
use Rattle.amounts.proofs.Figures.{read_is, zero_is, not_zero}
use Rattle.statements.specs.Table.{is_blank}
use Rattle.statements.proofs.same.is_blank.Goals as goal

pub returns-then-size-ne0 : goal.returns-then-size-ne0
unfolding is_blank
returns-then-size-ne0 c =
    let a = c.args.a in
    let position : is_zero a.position ≡ false = not_zero c.args.a.position _ (c.size.ensures ∙ ap nat_abs (read_is c.args.a.position c.struct_told-1.given.0.1)) c.if-size-ne0.true in
    rw (position)

pub returns-then-size-ne0-2 : goal.returns-then-size-ne0-2
unfolding is_blank
returns-then-size-ne0-2 c =
    let a = c.args.a in
    let position : is_zero a.position ≡ true = zero_is c.args.a.position _ (c.size.ensures ∙ ap nat_abs (read_is c.args.a.position c.struct_told-1.given.0.1)) c.if-size-ne0.false in
    let rate : is_zero a.rate ≡ false = not_zero c.args.a.rate _ (c.size-2.ensures ∙ ap nat_abs (read_is c.args.a.rate c.struct_told-2-1.given.1.0.1)) c.if-size-ne0-2.true in
    rw (position, rate)

pub returns-then-size-ne0-3 : goal.returns-then-size-ne0-3
unfolding is_blank
returns-then-size-ne0-3 c =
    let a = c.args.a in
    let position : is_zero a.position ≡ true = zero_is c.args.a.position _ (c.size.ensures ∙ ap nat_abs (read_is c.args.a.position c.struct_told-1.given.0.1)) c.if-size-ne0.false in
    let rate : is_zero a.rate ≡ true = zero_is c.args.a.rate _ (c.size-2.ensures ∙ ap nat_abs (read_is c.args.a.rate c.struct_told-2-1.given.1.0.1)) c.if-size-ne0-2.false in
    let called : is_zero a.called ≡ false = not_zero c.args.a.called _ (c.size-3.ensures ∙ ap nat_abs (read_is c.args.a.called c.struct_told-3-1.given.1.1.0.1)) c.if-size-ne0-3.true in
    rw (position, rate, called)

pub returns : goal.returns
unfolding is_blank
returns c =
    let a = c.args.a in
    let position : is_zero a.position ≡ true = zero_is c.args.a.position _ (c.size.ensures ∙ ap nat_abs (read_is c.args.a.position c.struct_told-1.given.0.1)) c.if-size-ne0.false in
    let rate : is_zero a.rate ≡ true = zero_is c.args.a.rate _ (c.size-2.ensures ∙ ap nat_abs (read_is c.args.a.rate c.struct_told-2-1.given.1.0.1)) c.if-size-ne0-2.false in
    let called : is_zero a.called ≡ true = zero_is c.args.a.called _ (c.size-3.ensures ∙ ap nat_abs (read_is c.args.a.called c.struct_told-3-1.given.1.1.0.1)) c.if-size-ne0-3.false in
    rw (position, rate, called) (ap (λ (n : ℕ). eqb n 0) (c.size-4.ensures ∙ ap nat_abs (read_is c.args.a.settled c.struct_told-4-1.given.1.1.1.0.1)))
