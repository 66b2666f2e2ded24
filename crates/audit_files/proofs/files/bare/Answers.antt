-- `bare` meets its contract.
-- Rests on FileLaws. Assumes nothing.
use Rattle.audit_files.proofs.FileLaws.{bare_returned, bare_plain}
use Rattle.audit_files.proofs.files.bare.Goals as goal

pub returns-in-Some : goal.returns-in-Some
returns-in-Some c = let e = c.in-Some.ensures.cases in bare_returned c.args.line.now _ e.0 e.1

pub returns-in-None : goal.returns-in-None
returns-in-None c = bare_plain _ c.in-None.ensures.cases
