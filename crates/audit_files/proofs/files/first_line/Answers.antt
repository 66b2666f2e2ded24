-- `first_line` meets its contract.
-- Assumes nothing.
use mathlib.Core.Path.{ap, ◌∙◌}
use Rattle.audit_files.specs.Entries.{bare}
use Rattle.audit_files.proofs.FileLaws.{open_line, ended_line}
use Rattle.audit_files.proofs.files.first_line.Goals as goal

pub returns-then-line-text-clause-line : goal.returns-then-line-text-clause-line
returns-then-line-text-clause-line c = c.parted.ensures.ahead ∙ open_line c.args.text.now (rw c.parted.ensures.ahead at c.if-line-text.true)

pub returns-else-line-text-clause-line : goal.returns-else-line-text-clause-line
returns-else-line-text-clause-line c = c.bare.ensures ∙ ap bare c.parted.ensures.ahead ∙ ended_line c.args.text.now (rw c.parted.ensures.ahead at c.if-line-text.false)
