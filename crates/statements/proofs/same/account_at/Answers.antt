-- `account_at` meets its contract.
-- Assumes nothing.
use mathlib.Core.Path.{◌≡◌}
use Rattle.books.proofs.Signed.{read_back}
use Rattle.statements.specs.Table.{account_at}
use borrow.Author.Rules.{rules}
use Rattle.statements.proofs.same.account_at.Goals as goal

pub returns : goal.returns
unfolding account_at
returns c =
    let position : read_back c.figure_at-position.result ≡ c.figure_at-position.result = search rules in
    let rate : read_back c.figure_at-rate.result ≡ c.figure_at-rate.result = search rules in
    let called : read_back c.figure_at-called.result ≡ c.figure_at-called.result = search rules in
    let settled : read_back c.figure_at-settled.result ≡ c.figure_at-settled.result = search rules in
    rw (position, rate, called, settled, c.figure_at-position.ensures, c.figure_at-rate.ensures, c.figure_at-called.ensures, c.figure_at-settled.ensures)
