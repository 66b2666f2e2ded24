-- `row_for` meets its contract.
-- Assumes nothing.
use borrow.Author.Tests.{lt-ltb, le-ltb}
use Rattle.posting.specs.Kinds.{accounts}
use Rattle.index.specs.Index.{row_for}
use Rattle.index.proofs.row_for.Goals as goal

pub returns-then-all : goal.returns-then-all
unfolding row_for
returns-then-all c = rw c.if-all.true

pub returns-then-account-lt-ACCOUNTS : goal.returns-then-account-lt-ACCOUNTS
unfolding row_for
returns-then-account-lt-ACCOUNTS c = rw (c.if-all.false, lt-ltb c.args.account accounts c.if-account-lt-ACCOUNTS.true)

pub returns : goal.returns
unfolding row_for
returns c = rw (c.if-all.false, le-ltb c.args.account accounts c.if-account-lt-ACCOUNTS.false)
