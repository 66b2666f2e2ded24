-- `print_answer` meets its contract. The report is counted on no bytes, then written.
-- Assumes nothing.
use native.Mathlib.Omega.{arith}
use Rattle.printer.proofs.Writing.{too_short, written}
use Rattle.audit_report.proofs.print_answer.Goals as goal

pub returns-then-out-needed : goal.returns-then-out-needed
returns-then-out-needed c =
    let p = too_short _ c.args.out.now _ _ c.put_answer-needed.ensures c.if-out-needed.true in
    record { value = p.0; out_after = p.1.0 }

pub returns : goal.returns
returns c =
    let p = written _ c.args.out.now _ _ c.put_answer-needed.ensures _ _ (omega (arith, c.well_formed)) c.if-out-needed.false c.put_answer.ensures in
    record { value = p.0; out_after = p.1.0 }
