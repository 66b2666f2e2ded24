-- `books::blank` meets its contract.
-- Assumes nothing.
use mathlib.Core.Path.{◌≡◌}
use borrow.Author.Rules.{rules}
use Rattle.books.specs.Books.{tabulate, zeros}
use Rattle.books.proofs.blank.Goals as goal

pub returns : goal.returns
unfolding tabulate
returns c =
    let none : c.default.result ≡ zeros = search rules in
    rw none
