-- `differs` meets its contract.
-- Assumes nothing.
use mathlib.Core.Path.{ap, ap₂, ◌∙◌}
use mathlib.Core.Bool.{not}
use mir.Syntax.{w64}
use mir.Val.{SFits}
use borrow.Author.Rules.{rules}
use Rattle.amounts.specs.Amounts.{same_number}
use Rattle.amounts.proofs.Figures.{same_bits}
use Rattle.audit_table.proofs.differs.Goals as goal

pub returns : goal.returns
returns c =
    let x : SFits w64 c.figure_in.result = search rules in
    let y : SFits w64 c.figure_in-2.result = search rules in
    ap not (same_bits _ _ x y ∙ ap₂ same_number c.figure_in.ensures c.figure_in-2.ensures)
