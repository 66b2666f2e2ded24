-- The loop's invariant: the sheet is that of the lines so far.
-- Rests on books and audit_rule's Handed. Assumes nothing.
use Rattle.std.proofs.Common.{◌≡◌, take}
use Rattle.books.specs.Books.{blank, books, sheet_of}
use Rattle.audit_rule.specs.Handed.{table_of}
use Rattle.audit_books.proofs.posted_lines.Given as goal

abbrev pub invariant-loop-m : goal.invariant-loop-m
invariant-loop-m l = l.sheet ≡ sheet_of (books blank (table_of l.postings.kinds.now l.postings.firsts.now l.postings.seconds.now l.postings.amounts.now) (take l.m-index l.lines))
