-- `mark_ahead` meets its contract.
-- Rests on Marks. Assumes nothing.
use Rattle.std.proofs.Common.{◌∙◌, sym, arith}
use Rattle.audit_pair.proofs.Marks.{marking_ends, marking_stops, marking_next}
use Rattle.audit_pair.proofs.mark_ahead.Goals as goal

pub returns-then-z-y : goal.returns-then-z-y
returns-then-z-y c =
    let v = c.args in
    let l = c.loop-z in
    marking_stops v.lines.now v.y v.size v.marks.now l.marks l.z-index c.loop-z-test.true c.if-z-y.true l.invariant

pub loop-z-preserved : goal.loop-z-preserved
loop-z-preserved c =
    let v = c.args in
    let l = c.loop-z in
    let k = c.requires.0 l.z-index c.loop-z-test.true in
    marking_next v.lines.now v.y v.size v.marks.now l.marks _ l.z-index c.from.result c.loop-z-test.true c.from.ensures (λ d. c.if-z-y.false (sym c.from.ensures ∙ d))
    (omega arith) c.mark.ensures l.invariant

pub returns : goal.returns
returns c =
    let v = c.args in
    let l = c.loop-z in
    marking_ends v.lines.now v.y v.size v.marks.now l.marks l.z-index (omega arith) l.invariant
