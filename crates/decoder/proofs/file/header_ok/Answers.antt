-- `header_ok` meets its contract.
-- Assumes nothing.
use Rattle.std.proofs.Common.{rules, tests, arith}
use Rattle.decoder.specs.RunFile.{header_ok}
use Rattle.decoder.proofs.file.header_ok.Goals as goal

pub returns-then-has_mark : goal.returns-then-has_mark
unfolding header_ok
returns-then-has_mark c = search (tests, rules)

pub returns-else-has_mark : goal.returns-else-has_mark
unfolding header_ok
returns-else-has_mark c = search (tests, rules)
