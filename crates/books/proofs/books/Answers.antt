-- `books::books` meets its contract: the sheet of the record, filled in.
-- Assumes nothing.
use mathlib.Core.Path.{◌∙◌}
use Rattle.posting.specs.Records.{numbers_of}
use Rattle.books.specs.Books.{books, figures_on}
use Rattle.books.proofs.Blocks.{sheet_numbers}
use Rattle.books.proofs.books.Goals as goal

pub returns : goal.returns
returns c =
    c.fill.ensures
    ∙ rw (c.posted.ensures, sheet_numbers (books (figures_on c.args.opening) c.args.table (numbers_of c.args.delivered)))
