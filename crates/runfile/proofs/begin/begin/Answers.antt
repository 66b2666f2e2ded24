-- `begin` meets its contract.
-- Assumes nothing.
use mathlib.Core.Path.{sym, ◌∙◌}
use Rattle.runfile.proofs.Programs.{begun_malformed, begun_tested}
use Rattle.runfile.proofs.begin.begin.Goals as goal

pub returns-then-not-well_formed : goal.returns-then-not-well_formed
returns-then-not-well_formed c = begun_malformed c.args.input.now _ c.setup_of-setup.ensures (sym c.well_formed-2.ensures ∙ c.if-not-well_formed.true)

pub returns-in-Ok : goal.returns-in-Ok
returns-in-Ok c =
    begun_tested c.args.input.now _ _ c.setup_of-setup.ensures (sym c.well_formed-2.ensures ∙ c.if-not-well_formed.false) c.in-Ok.ensures

pub returns-in-Err : goal.returns-in-Err
returns-in-Err c =
    begun_tested c.args.input.now _ _ c.setup_of-setup.ensures (sym c.well_formed-2.ensures ∙ c.if-not-well_formed.false) c.in-Err.ensures
