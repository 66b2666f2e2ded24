-- `meet` meets its contract.
-- Assumes nothing.
use mathlib.Core.Path.{◌≡◌, refl, ap, ◌∙◌}
use native.Mathlib.Omega.{arith}
use lib.ListN.{length}
use lib.Bits.{bit_and}
use borrow.Author.Rules.{rules}
use Rattle.sets.specs.Words.{intersect}
use Rattle.sets.specs.Sets.{words, of_words}
use Rattle.sets.proofs.Loops.{wordwise_step, wordwise_end}
use Rattle.sets.proofs.Set.meet.Goals as goal

pub loop-i-preserved : goal.loop-i-preserved
loop-i-preserved c =
    let at = c.loop-i in
    let args = c.args in
    let long : length args.self.words ≡ words = search rules in
    let other : length args.t.words ≡ words = search rules in
    wordwise_step bit_and refl args.self.words args.t.words (omega arith) at.w-items at.i (omega arith) at.invariant

pub returns : goal.returns
unfolding intersect
returns c =
    let at = c.loop-i in
    let args = c.args in
    let long : length args.self.words ≡ words = search rules in
    let other : length args.t.words ≡ words = search rules in
    ap of_words (at.invariant ∙ wordwise_end bit_and refl args.self.words args.t.words (omega arith) at.i (omega arith))
