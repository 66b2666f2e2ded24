-- `join_kind` meets its contract.
-- Assumes nothing.
use borrow.Author.Tests.{le-leb, lt-leb}
use Rattle.index.specs.Index.{joined_if}
use Rattle.index.proofs.join_kind.Goals as goal

pub returns-then-row-ge-INDEX_ROWS : goal.returns-then-row-ge-INDEX_ROWS
unfolding joined_if
returns-then-row-ge-INDEX_ROWS c = rw (c.if-so.true, le-leb _ _ c.if-row-ge-INDEX_ROWS.true)

pub returns-then-so : goal.returns-then-so
unfolding joined_if
returns-then-so c =
    rw (c.if-so.true, lt-leb _ _ c.if-row-ge-INDEX_ROWS.false, c.join.ensures, c.load-more.ensures, c.slot_of-slot.ensures)

pub returns : goal.returns
unfolding joined_if
returns c = rw c.if-so.false
