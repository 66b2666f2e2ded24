-- `pool_ok` meets its contract.
-- Assumes nothing.
use Rattle.std.proofs.Common.{rules, tests}
use Rattle.sets.specs.Below.{all_of}
use Rattle.soundness.specs.Parts.{pool_sound}
use Rattle.soundness.proofs.pool.pool_ok.Goals as goal

pub returns-then-record_ok : goal.returns-then-record_ok
unfolding pool_sound all_of
returns-then-record_ok c = search (tests, rules)

pub returns-else-record_ok : goal.returns-else-record_ok
unfolding pool_sound all_of
returns-else-record_ok c = search (tests, rules)
