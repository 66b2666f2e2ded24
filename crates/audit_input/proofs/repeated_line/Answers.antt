-- `repeated_line` meets its contract.
-- Rests on Marks. Assumes nothing.
use Rattle.std.proofs.Common.{length, arith}
use Rattle.audit_input.proofs.Marks.{repeat_found, marking_next, repeat_none}
use Rattle.audit_input.proofs.repeated_line.Goals as goal

pub returns-then-marks-x-ne0 : goal.returns-then-marks-x-ne0
returns-then-marks-x-ne0 c =
    let at = c.loop-i in
    repeat_found c.args.lines.now (length c.fill.new.self) (λ i h. let b = c.requires i h in omega arith) at.marks at.i at.invariant c.loop-i-test.true (rw c.from-x.ensures at c.if-marks-x-ne0.true)

pub loop-i-preserved : goal.loop-i-preserved
loop-i-preserved c =
    let at = c.loop-i in
    rw c.from-x.ensures (marking_next c.args.lines.now (length c.fill.new.self) (λ i h. let b = c.requires i h in omega arith) at.marks at.i at.invariant c.loop-i-test.true (rw c.from-x.ensures at c.if-marks-x-ne0.false))

pub returns : goal.returns
returns c = let at = c.loop-i in repeat_none c.args.lines.now (length c.fill.new.self) at.marks at.i at.invariant c.loop-i-test.false
