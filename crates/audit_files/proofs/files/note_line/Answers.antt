-- `note_line` meets its contract.
-- Assumes nothing.
use mathlib.Core.Path.{refl}
use borrow.Author.Tests.{lt-leb}
use Rattle.audit_files.proofs.files.note_line.Goals as goal

pub returns-then-count-lt-MOST_LINES-clause-lines_after : goal.returns-then-count-lt-MOST_LINES-clause-lines_after
returns-then-count-lt-MOST_LINES-clause-lines_after c = rw (lt-leb 65537 c.args.count c.if-count-lt-MOST_LINES.true) refl
