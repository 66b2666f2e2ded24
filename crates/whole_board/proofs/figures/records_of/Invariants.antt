-- `records_of` meets its contract.
-- Assumes nothing.
use Prim.Native.Nat.{◌≤◌}
use Rattle.books.specs.Books.{no_record}
use Rattle.site.specs.Sites.{sites}
use Rattle.views.specs.Views.{record_in}
use Rattle.views.proofs.Filled.{Filled}
use Rattle.whole_board.proofs.figures.records_of.Given as goal

abbrev pub invariant-loop-p : goal.invariant-loop-p
invariant-loop-p l = (l.p ≤ sites) × Filled sites (record_in l.board) no_record l.records.sites l.p
