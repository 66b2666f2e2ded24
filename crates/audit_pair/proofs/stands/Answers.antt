-- `stands` meets its contract.
-- Rests on Places. Assumes nothing.
use native.Mathlib.Omega.{arith}
use Rattle.audit_pair.proofs.Places.{stands_neither, stands_second_alone, stands_first_alone, stands_forth, stands_back}
use Rattle.audit_pair.proofs.stands.Goals as goal

pub returns-then-i-j : goal.returns-then-i-j
returns-then-i-j c =
    let v = c.args in stands_neither v.x v.y v.lines.now c.place_of-i.ensures c.place_of-j.ensures c.if-i-j.true

pub returns-then-i-end : goal.returns-then-i-end
returns-then-i-end c =
    let v = c.args in stands_second_alone v.x v.y v.lines.now c.place_of-i.ensures c.place_of-j.ensures c.if-i-j.false c.if-i-end.true

pub returns-then-j-end : goal.returns-then-j-end
returns-then-j-end c =
    let v = c.args in stands_first_alone v.x v.y v.lines.now c.place_of-i.ensures c.place_of-j.ensures c.if-i-j.false c.if-i-end.false c.if-j-end.true

pub returns-then-i-j-2 : goal.returns-then-i-j-2
returns-then-i-j-2 c =
    let v = c.args in stands_forth v.x v.y v.lines.now c.place_of-i.ensures c.place_of-j.ensures c.if-i-j.false c.if-i-end.false c.if-j-end.false c.if-i-j-2.true

pub returns-else-i-j-2 : goal.returns-else-i-j-2
returns-else-i-j-2 c =
    let v = c.args in stands_back v.x v.y v.lines.now c.place_of-i.ensures c.place_of-j.ensures c.if-i-j.false c.if-i-end.false c.if-j-end.false (omega (arith, c.if-i-j-2.false))
