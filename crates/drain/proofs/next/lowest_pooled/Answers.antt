-- `lowest_pooled` meets its contract. The loop's invariant: no word before the k-th has a posting.
-- Assumes nothing.
use Prim.Native.Nat.{◌-◌}
use native.Mathlib.Omega.{arith}
use Rattle.sets.specs.Sets.{words}
use Rattle.arrays.specs.Layout.{pool_slot}
use Rattle.drain.proofs.Pooled.{word_none, word_some, words_none}
use borrow.Author.Rules.{rules}
use Rattle.drain.proofs.next.lowest_pooled.Goals as goal

pub loop-k-init : goal.loop-k-init
loop-k-init c = (search rules, λ i h. absurd (omega arith))

pub returns-then-low-lt64 : goal.returns-then-low-lt64
returns-then-low-lt64 c =
    word_some c.args.words.now pool_slot c.loop-k.k c.loop-k-test.true c.loop-k.invariant.1 _ c.lowest_bit-low.ensures c.if-low-lt64.true

pub loop-k-preserved : goal.loop-k-preserved
loop-k-preserved c =
    (search rules, word_none c.args.words.now pool_slot c.loop-k.k c.loop-k-test.true c.loop-k.invariant.1 _ c.lowest_bit-low.ensures c.if-low-lt64.false)

pub returns : goal.returns
returns c =
    let at = c.loop-k in
    words_none c.args.words.now pool_slot at.k c.loop-k-test.false at.invariant.1
