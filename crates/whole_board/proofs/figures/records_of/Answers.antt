-- `records_of` meets its contract.
-- Assumes nothing.
use Rattle.books.specs.Books.{no_record}
use Rattle.site.specs.Sites.{sites}
use Rattle.views.proofs.Filled.{filled_begin, filled_step, filled_all}
use borrow.Author.Rules.{rules}
use Rattle.whole_board.proofs.figures.records_of.Goals as goal

pub loop-p-init : goal.loop-p-init
loop-p-init c = (search rules, filled_begin sites _ no_record _)

pub loop-p-preserved : goal.loop-p-preserved
loop-p-preserved c =
    let at = c.loop-p in
    (search rules, filled_step sites _ no_record at.records.sites at.p c.record_of-in-loop-p.result c.loop-p-test.true c.record_of-in-loop-p.ensures at.invariant.1)

pub returns : goal.returns
returns c = filled_all sites _ no_record c.loop-p.records.sites c.loop-p.p c.loop-p-test.false c.loop-p.invariant.1
