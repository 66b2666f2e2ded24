-- `words_from` meets its contract.
-- Assumes nothing.
use Rattle.views.proofs.Filled.{filled_begin, filled_step, filled_all}
use Rattle.image.specs.Image.{numbers}
use borrow.Author.Rules.{rules}
use Rattle.image.proofs.numbers.words_from.Goals as goal

pub loop-k-init : goal.loop-k-init
loop-k-init g c = (search rules, filled_begin g.row.N _ 0 _)

pub loop-k-preserved : goal.loop-k-preserved
loop-k-preserved g c =
    let at = c.loop-k in
    (search rules, filled_step g.row.N _ 0 at.all at.k c.word.result c.loop-k-test.true c.word.ensures at.invariant.1)

pub returns : goal.returns
unfolding numbers
returns g c = filled_all g.row.N _ 0 c.loop-k.all c.loop-k.k c.loop-k-test.false c.loop-k.invariant.1
