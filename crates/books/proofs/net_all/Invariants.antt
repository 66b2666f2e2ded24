-- `books::net_all` meets its contract: after so many accounts these are netted.
-- Assumes nothing.
use mathlib.Core.Path.{◌≡◌}
use Rattle.books.specs.Books.{figures_on, sheet_of}
use Rattle.books.specs.declared.Sheet.{Sheet}
use Rattle.books.proofs.Sheets.{netted}
use Rattle.books.proofs.net_all.Given as goal

abbrev pub invariant-loop-s : goal.invariant-loop-s
invariant-loop-s l = ◌≡◌ {A = Sheet} (record { accounts = l.s-items }) (sheet_of (netted l.s-index (figures_on l.fn.sheet)))
