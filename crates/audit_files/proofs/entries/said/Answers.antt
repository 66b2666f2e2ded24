-- `said` meets its contract.
-- Rests on EntryLaws. Assumes nothing.
use mathlib.Core.Path.{ap, ◌∙◌}
use Rattle.audit_files.specs.Entries.{fields_after}
use Rattle.audit_files.proofs.EntryLaws.{entry_none, entry_alone, entry_fields}
use Rattle.audit_files.proofs.entries.said.Goals as goal

pub returns-in_err-number : goal.returns-in_err-number
returns-in_err-number c =
    rw c.from_residual.ensures (entry_none c.args.line.now c.parted.ensures.ahead c.in_err-number.ensures.value)

pub returns-then-first-line : goal.returns-then-first-line
returns-then-first-line c =
    let number = c.in_ok-number.ensures in
    entry_alone c.args.line.now c.parted.ensures.ahead number.value number.bound c.if-first-line.true

pub returns : goal.returns
returns c =
    let number = c.in_ok-number.ensures in
    c.fields_after.ensures ∙ ap (fields_after c.in_ok-number.field-0) c.parted.ensures.behind ∙ entry_fields c.args.line.now c.parted.ensures.ahead number.value c.if-first-line.false
