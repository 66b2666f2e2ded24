-- `run_drain` meets its contract.
-- Assumes nothing.
use mathlib.Core.Path.{refl}
use Rattle.steps.proofs.Numbers.{is_refusal}
use Rattle.runfile.proofs.Programs.{begun_runs}
use Rattle.counted.proofs.DrainLaws.{gives_as}
use Rattle.counted.proofs.AfterDrain.{refused_none, started_drains}
use Rattle.counted.proofs.run_drain.Goals as goal

pub drain_from-requires : goal.drain_from-requires
drain_from-requires c = begun_runs c.args.input.now _ c.in-Ok.ensures refl

pub returns-in-Ok : goal.returns-in-Ok
returns-in-Ok c =
    let g = c.args in
    let shown = gives_as (started_drains g.input.now g.limit g.out.now _ c.in-Ok.ensures refl) (c.drain_from.ensures.value, c.drain_from.ensures.out_after) in
    record { value = shown.0; out_after = shown.1 }

pub returns-in-Err : goal.returns-in-Err
returns-in-Err c =
    let g = c.args in
    let shown = refused_none g.input.now g.limit g.out.now _ c.in-Err.ensures (is_refusal c.in-Err.field-0.refusal) in
    record { value = shown.0; out_after = shown.1 }
