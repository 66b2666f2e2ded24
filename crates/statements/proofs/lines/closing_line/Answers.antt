-- `closing_line` meets its contract.
-- Assumes nothing.
use Rattle.statements.proofs.lines.closing_line.Goals as goal

pub returns-then-same : goal.returns-then-same
returns-then-same c = rw c.if-same.true c.put_text.ensures

pub returns : goal.returns
returns c = rw c.if-same.false c.put_text-2.ensures
