-- `order` meets its contract.
-- Assumes nothing.
use Rattle.calls.proofs.OnCalls.{order_beyond, order_absent, order_done}
use Rattle.calls.proofs.order.Goals as goal

pub returns-then-m-ge-POSTINGS : goal.returns-then-m-ge-POSTINGS
returns-then-m-ge-POSTINGS c = order_beyond c.args.board.now c.args.m c.if-m-ge-POSTINGS.true

pub returns-then-not-has_in : goal.returns-then-not-has_in
returns-then-not-has_in c = order_absent c.args.board.now c.args.m c.if-m-ge-POSTINGS.false _ c.has_in.ensures c.if-not-has_in.true

pub returns : goal.returns
returns c =
    order_done c.args.board.now c.args.m c.if-m-ge-POSTINGS.false _ c.has_in.ensures _ _ c.if-not-has_in.false c.drop_from.ensures
    c.append_log.ensures
