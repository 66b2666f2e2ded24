-- `length_ok` meets its contract.
-- Assumes nothing.
use Rattle.std.proofs.Common.{rules, tests, arith}
use Rattle.decoder.specs.RunFile.{length_ok}
use Rattle.decoder.proofs.file.length_ok.Goals as goal

pub returns-then-length-eq0 : goal.returns-then-length-eq0
unfolding length_ok
returns-then-length-eq0 c = search (tests, rules)

pub returns-else-length-eq0 : goal.returns-else-length-eq0
unfolding length_ok
returns-else-length-eq0 c = search (tests, rules)
