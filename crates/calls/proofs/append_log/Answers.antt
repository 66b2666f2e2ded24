-- `append_log` meets its contract.
-- Assumes nothing.
use Rattle.calls.proofs.OnCalls.{log_full, log_room}
use Rattle.calls.proofs.append_log.Goals as goal

pub returns-then-count-ge-POSTINGS : goal.returns-then-count-ge-POSTINGS
returns-then-count-ge-POSTINGS c = log_full c.args.board.now c.args.m c.if-count-ge-POSTINGS.true

pub returns : goal.returns
returns c = log_room c.args.board.now c.args.m c.if-count-ge-POSTINGS.false
