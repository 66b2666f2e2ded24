-- `figures_of` meets its contract: the sheet of the record, filled in.
-- Rests on books. Assumes nothing.
use Rattle.std.proofs.Common.{◌∙◌}
use Rattle.books.specs.Books.{books, blank}
use Rattle.books.proofs.Blocks.{sheet_numbers}
use Rattle.audit_rule.specs.Handed.{table_of}
use Rattle.audit_books.proofs.figures_of.Goals as goal

pub returns : goal.returns
returns c =
    let p = c.args.postings in
    c.fill.ensures ∙ rw (c.posted_lines-sheet.ensures, sheet_numbers (books blank (table_of p.kinds.now p.firsts.now p.seconds.now p.amounts.now) c.args.lines.now))
