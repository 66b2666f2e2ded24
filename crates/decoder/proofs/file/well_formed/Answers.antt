-- `well_formed` meets its contract.
-- Assumes nothing.
use Rattle.std.proofs.Common.{rules, tests, arith}
use Rattle.decoder.specs.RunFile.{well_formed}
use Rattle.decoder.proofs.file.well_formed.Goals as goal

pub returns-then-length_ok : goal.returns-then-length_ok
unfolding well_formed
returns-then-length_ok c = search (tests, rules)

pub returns-else-length_ok : goal.returns-else-length_ok
unfolding well_formed
returns-else-length_ok c = search (tests, rules)
