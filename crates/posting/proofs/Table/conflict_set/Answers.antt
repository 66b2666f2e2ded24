-- `conflict_set` meets its contract. The loop's invariant: the set is that of the offered numbers below x that conflict with m.
-- Assumes nothing.
use Prim.Native.Nat.{ℕ}
use mathlib.Core.Path.{◌≡◌, ap, ◌∙◌}
use native.Mathlib.Numerals.{add-one}
use native.Mathlib.Omega.{arith}
use Rattle.sets.specs.Words.{collect}
use Rattle.sets.specs.Sets.{words, capacity, of_words, with}
use Rattle.posting.specs.Conflicts.{row, offered, conflict, conflict_set}
use Rattle.posting.proofs.Table.conflict_set.Invariants.{others}
use Rattle.posting.proofs.Table.conflict_set.Goals as goal

pub loop-x-init : goal.loop-x-init
unfolding collect
loop-x-init c = c.empty-s.ensures

pub loop-x-preserved : goal.loop-x-preserved
unfolding collect offered conflict row
loop-x-preserved c = rw (add-one, c.with_if-s.ensures, c.offered_conflict.ensures, c.row-p.ensures, c.loop-x.invariant)

pub returns : goal.returns
unfolding conflict_set
returns c =
    let at = c.loop-x in
    let args = c.args in
    let end : at.x ≡ capacity = omega arith in
    c.with.ensures ∙ ap (λ s. with s args.m) (at.invariant ∙ ap (λ (n : ℕ). of_words (collect words (others args.matrix args.self args.m) n)) end)
