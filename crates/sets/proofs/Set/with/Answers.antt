-- `with` meets its contract.
-- Assumes nothing.
use mathlib.Core.Path.{◌≡◌, ap, ◌∙◌}
use native.Mathlib.Omega.{arith}
use lib.ListN.{length}
use borrow.Author.Rules.{rules}
use Rattle.sets.specs.Sets.{words, of_words}
use Rattle.sets.proofs.Loops.{insert_none, insert_step, insert_end}
use Rattle.sets.proofs.Set.with.Goals as goal

pub loop-i-init : goal.loop-i-init
loop-i-init c = insert_none c.args.self.words c.args.m

pub loop-i-preserved : goal.loop-i-preserved
loop-i-preserved c =
    let at = c.loop-i in
    insert_step c.args.self.words c.args.m at.w-items at.i c.word_with.result at.invariant c.word_with.ensures

pub returns : goal.returns
returns c =
    let at = c.loop-i in
    let args = c.args in
    let long : length args.self.words ≡ words = search rules in
    ap of_words (at.invariant ∙ insert_end args.self.words args.m at.i (omega arith))
