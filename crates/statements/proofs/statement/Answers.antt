-- `statement` meets its contract.
-- Assumes nothing.
use mathlib.Core.Path.{refl, ap, ◌∙◌}
use Rattle.printer.specs.Output.{refused_line}
use Rattle.steps.proofs.Numbers.{is_refusal}
use Rattle.runfile.proofs.Programs.{printed_as, begun_runs}
use Rattle.statements.proofs.Stated.{refused_stated, started_stated}
use Rattle.statements.proofs.statement.Goals as goal

pub state_from-requires : goal.state_from-requires
state_from-requires c = begun_runs c.args.input.now _ c.in-Ok.ensures refl

pub returns-in-Ok : goal.returns-in-Ok
returns-in-Ok c =
    let g = c.args in
    let shown =
    printed_as g.out.now (started_stated g.input.now _ c.in-Ok.ensures refl)
    (c.state_from.ensures.value, (c.state_from.ensures.out_after, c.state_from.ensures.result_value)) in
    record { value = shown.0; out_after = shown.1.0; result_value = shown.1.1 }

pub returns-in-Err : goal.returns-in-Err
returns-in-Err c =
    let g = c.args in
    let line = ap refused_line c.number.ensures in
    let shown =
    printed_as g.out.now (line ∙ refused_stated g.input.now _ c.in-Err.ensures (is_refusal c.in-Err.not_begun.refusal))
    (c.print_refused.ensures.value, (c.print_refused.ensures.out_after, c.print_refused.ensures.result_value)) in
    record { value = shown.0; out_after = shown.1.0; result_value = shown.1.1 }
