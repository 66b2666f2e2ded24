-- `run_events` meets its contract.
-- Assumes nothing.
use mathlib.Core.Path.{refl}
use Rattle.steps.proofs.Numbers.{is_refusal}
use Rattle.runfile.proofs.Programs.{begun_runs}
use Rattle.counted.proofs.DrainLaws.{gives_as}
use Rattle.counted.proofs.NumberLaws.{refused_not_run, started_runs}
use Rattle.counted.proofs.run_events.Goals as goal

pub answer_from-requires : goal.answer_from-requires
answer_from-requires c =
    let (stays, good, few) = begun_runs c.args.input.now _ c.in-Ok.ensures refl in
    (stays, few)

pub returns-in-Ok : goal.returns-in-Ok
returns-in-Ok c =
    let g = c.args in
    let shown = gives_as (started_runs g.input.now g.numbers.now _ c.in-Ok.ensures refl) (c.answer_from.ensures.value, c.answer_from.ensures.numbers_after) in
    record { value = shown.0; numbers_after = shown.1 }

pub returns-in-Err : goal.returns-in-Err
returns-in-Err c =
    let g = c.args in
    let shown = refused_not_run g.input.now g.numbers.now _ c.in-Err.ensures (is_refusal c.in-Err.field-0.refusal) in
    record { value = shown.0; numbers_after = shown.1 }
