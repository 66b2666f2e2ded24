-- `run_by_value` meets its contract.
-- Assumes nothing.
use mathlib.Core.Path.{sym, ap, ◌∙◌}
use Rattle.runfile.proofs.Programs.{start_with}
use Rattle.counted.proofs.DrainLaws.{malformed_none, start_none, start_drains}
use Rattle.by_value.proofs.run.run_by_value.Goals as goal

pub returns-then-why-ne0 : goal.returns-then-why-ne0
returns-then-why-ne0 c =
    let g = c.args in
    let well = sym c.well_formed-2.ensures ∙ c.if-well_formed.true in
    let o = c.start-started.ensures.value ∙ ap start_with c.setup_of-setup.ensures in let shown = start_none g.input.now g.limit g.out.now _ _ well o c.refusal_of-why.ensures c.if-why-ne0.true in record { value = shown.0; out_after = shown.1 }

pub returns-then-well_formed : goal.returns-then-well_formed
returns-then-well_formed c =
    let g = c.args in
    let well = sym c.well_formed-2.ensures ∙ c.if-well_formed.true in
    let o = c.start-started.ensures.value ∙ ap start_with c.setup_of-setup.ensures in
    let same = start_drains g.input.now g.limit g.out.now _ _ well o c.refusal_of-why.ensures c.if-why-ne0.false in
    record { value = c.drain_after.ensures.value ∙ ap (λ x. x.count) same; out_after = c.drain_after.ensures.out_after ∙ ap (λ x. x.slice) same }

pub returns : goal.returns
returns c =
    let g = c.args in let shown = malformed_none g.input.now g.limit g.out.now (sym c.well_formed-2.ensures ∙ c.if-well_formed.false) in record { value = shown.0; out_after = shown.1 }
