-- `floor_after` meets its contract.
-- Assumes nothing.
use Rattle.drain.proofs.Floor.{floor_early, floor_lower, floor_higher}
use Rattle.drain.proofs.next.floor_after.Goals as goal

pub returns-then-form-lt-DELIVER : goal.returns-then-form-lt-DELIVER
returns-then-form-lt-DELIVER c = floor_early _ _ _ _ c.if-form-lt-DELIVER.true

pub returns-then-relayed-taken : goal.returns-then-relayed-taken
returns-then-relayed-taken c = floor_lower _ _ _ _ c.if-form-lt-DELIVER.false _ c.cell-relayed.ensures c.if-relayed-taken.true

pub returns : goal.returns
returns c = floor_higher _ _ _ _ c.if-form-lt-DELIVER.false _ c.cell-relayed.ensures c.if-relayed-taken.false
