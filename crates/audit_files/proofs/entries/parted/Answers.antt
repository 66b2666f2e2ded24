-- `parted` meets its contract.
-- Rests on EntryLaws. Assumes nothing.
use mathlib.Core.Path.{sym, ◌∙◌}
use Rattle.audit_files.proofs.EntryLaws.{found_ahead, found_behind, none_ahead, none_behind}
use Rattle.audit_files.proofs.entries.parted.Goals as goal

pub returns-in-Some-clause-ahead : goal.returns-in-Some-clause-ahead
returns-in-Some-clause-ahead c =
    let byte = c.args.byte in
    let text = c.args.text.now in
    found_ahead byte text c.in-Some.i (sym c.in-Some.is ∙ c.place_of.ensures)

pub returns-in-Some-clause-behind : goal.returns-in-Some-clause-behind
returns-in-Some-clause-behind c =
    let byte = c.args.byte in
    let text = c.args.text.now in
    found_behind byte text c.in-Some.i (sym c.in-Some.is ∙ c.place_of.ensures)

pub returns-in-None-clause-ahead : goal.returns-in-None-clause-ahead
returns-in-None-clause-ahead c =
    let byte = c.args.byte in
    let text = c.args.text.now in
    none_ahead byte text (sym c.in-None.is ∙ c.place_of.ensures)

pub returns-in-None-clause-behind : goal.returns-in-None-clause-behind
returns-in-None-clause-behind c =
    let byte = c.args.byte in
    let text = c.args.text.now in
    none_behind byte text (sym c.in-None.is ∙ c.place_of.ensures)
