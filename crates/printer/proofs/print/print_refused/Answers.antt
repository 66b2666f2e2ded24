-- `print_refused` meets its contract. The line is counted on no bytes, then written.
-- Assumes nothing.
use native.Mathlib.Omega.{arith}
use Rattle.printer.specs.Output.{refused_line}
use Rattle.printer.proofs.Writing.{too_short, written}
use Rattle.printer.proofs.print.print_refused.Goals as goal

pub returns-then-out-needed : goal.returns-then-out-needed
returns-then-out-needed c =
    let args = c.args in let shown = too_short (refused_line args.refusal) args.out.now _ _ c.refused_line-needed.ensures c.if-out-needed.true in record { value = shown.0; out_after = shown.1.0; result_value = shown.1.1 }

pub returns : goal.returns
returns c =
    let args = c.args in let shown = written (refused_line args.refusal) args.out.now _ _ c.refused_line-needed.ensures _ _ (omega arith) c.if-out-needed.false c.refused_line-end.ensures in record { value = shown.0; out_after = shown.1.0; result_value = shown.1.1 }
