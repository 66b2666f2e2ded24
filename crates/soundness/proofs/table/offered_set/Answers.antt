-- `offered_set` meets its contract. The loop's invariant: the set is that of the numbers below x that are offered.
-- Assumes nothing.
use Prim.Native.Nat.{ℕ}
use mathlib.Core.Path.{◌≡◌, ap, ◌∙◌}
use native.Mathlib.Omega.{arith}
use native.Mathlib.Numerals.{add-one}
use Rattle.sets.specs.Words.{collect}
use Rattle.sets.specs.Sets.{words, capacity, of_words}
use Rattle.posting.specs.Conflicts.{offered_by}
use Rattle.soundness.proofs.table.offered_set.Goals as goal

pub loop-x-init : goal.loop-x-init
unfolding collect
loop-x-init c = c.empty-all.ensures

pub loop-x-preserved : goal.loop-x-preserved
unfolding collect
loop-x-preserved c = rw (add-one, c.with_if-all.ensures, c.offered_by.ensures, c.loop-x.invariant)

pub returns : goal.returns
returns c =
    let at = c.loop-x in
    let end : at.x ≡ capacity = omega arith in
    at.invariant ∙ ap (λ (n : ℕ). of_words (collect words (offered_by c.args.count) n)) end
