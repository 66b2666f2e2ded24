-- `has_mark` meets its contract.
-- Assumes nothing.
use Rattle.std.proofs.Common.{rules, tests, arith}
use Rattle.decoder.specs.RunFile.{has_mark}
use Rattle.decoder.proofs.file.has_mark.Goals as goal

pub returns-then-byte_at-eq85 : goal.returns-then-byte_at-eq85
unfolding has_mark
returns-then-byte_at-eq85 c = search (tests, rules)

pub returns-else-byte_at-eq85 : goal.returns-else-byte_at-eq85
unfolding has_mark
returns-else-byte_at-eq85 c = search (tests, rules)
