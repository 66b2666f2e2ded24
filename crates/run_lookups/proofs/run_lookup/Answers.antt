-- `run_lookup` meets its contract.
-- Assumes nothing.
use Prim.Native.Nat.{ℕ}
use mathlib.Core.Path.{refl, sym, ap, ◌∙◌}
use Rattle.steps.proofs.Numbers.{is_refusal}
use Rattle.machine.specs.Runs.{running}
use Rattle.runfile.proofs.Programs.{begun_runs, file_runs}
use Rattle.counted.proofs.DrainLaws.{gives_as}
use Rattle.run_lookups.specs.Looked.{count_or, not_looked, looked_on, looked_file}
use Rattle.run_lookups.proofs.LookedLaws.{refused_gives}
use Rattle.run_lookups.proofs.run_lookup.Goals as goal

pub look_up_after-requires : goal.look_up_after-requires
look_up_after-requires c =
    let (stays, good, few) = begun_runs c.args.input.now _ c.in-Ok.ensures refl in
    (stays, few)

pub returns-in-Ok : goal.returns-in-Ok
unfolding looked_file
returns-in-Ok c =
    let g = c.args in
    let shown =
    gives_as
    (sym (file_runs g.input.now _ c.in-Ok.ensures (not_looked g.out.now) (λ b calls. looked_on g.pairs.now g.out.now (running b calls)) refl))
    (c.look_up_after.ensures.value, c.look_up_after.ensures.out_after) in
    record { value = shown.0; out_after = shown.1 }

pub returns-in-Err : goal.returns-in-Err
unfolding looked_file
returns-in-Err c =
    let g = c.args in
    let count = c.count_or.ensures ∙ ap (λ (why : ℕ). count_or why 0) c.number.ensures in
    let shown = refused_gives g.input.now g.out.now _ c.in-Err.ensures _ (is_refusal c.in-Err.not_begun.refusal) c.count_or.result count in
    record { value = shown.0; out_after = shown.1 }
