-- `run_file` meets its contract.
-- Assumes nothing.
use mathlib.Core.Path.{refl, ap, ◌∙◌}
use Rattle.printer.specs.Output.{refused_line}
use Rattle.steps.proofs.Numbers.{is_refusal}
use Rattle.runfile.proofs.Programs.{printed_as, begun_runs, refused_printed, taken_printed}
use Rattle.runfile.proofs.run.run_file.Goals as goal

pub run_from-requires : goal.run_from-requires
run_from-requires c =
    let (stays, good, few) = begun_runs c.args.input.now _ c.in-Ok.ensures refl in
    (stays, few)

pub returns-in-Ok : goal.returns-in-Ok
returns-in-Ok c =
    let g = c.args in
    let shown =
    printed_as g.out.now (taken_printed g.input.now _ c.in-Ok.ensures refl)
    (c.run_from.ensures.value, (c.run_from.ensures.out_after, c.run_from.ensures.result_value)) in
    record { value = shown.0; out_after = shown.1.0; result_value = shown.1.1 }

pub returns-in-Err : goal.returns-in-Err
returns-in-Err c =
    let g = c.args in
    let line = ap refused_line c.number.ensures in
    let shown =
    printed_as g.out.now (line ∙ refused_printed g.input.now _ c.in-Err.ensures (is_refusal c.in-Err.not_begun.refusal))
    (c.print_refused.ensures.value, (c.print_refused.ensures.out_after, c.print_refused.ensures.result_value)) in
    record { value = shown.0; out_after = shown.1.0; result_value = shown.1.1 }
