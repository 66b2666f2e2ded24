-- `print_statement` meets its contract. The lines are counted on no bytes, then written.
-- Assumes nothing.
use native.Mathlib.Omega.{arith}
use Rattle.statements.specs.Table.{statement_text}
use Rattle.printer.proofs.Writing.{too_short, written}
use Rattle.statements.proofs.lines.print_statement.Goals as goal

pub returns-then-out-needed : goal.returns-then-out-needed
returns-then-out-needed c =
    let args = c.args in let shown = too_short (statement_text args.figures.now args.n args.down) args.out.now _ _ c.statement_lines-needed.ensures c.if-out-needed.true in record { value = shown.0; out_after = shown.1.0; result_value = shown.1.1 }

pub returns : goal.returns
returns c =
    let args = c.args in let shown = written (statement_text args.figures.now args.n args.down) args.out.now _ _ c.statement_lines-needed.ensures _ _ (omega arith) c.if-out-needed.false c.statement_lines-end.ensures in record { value = shown.0; out_after = shown.1.0; result_value = shown.1.1 }
