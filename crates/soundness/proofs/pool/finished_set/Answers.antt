-- `finished_set` meets its contract. The loop's invariant: the set is that of the numbers below m that their owners have finished.
-- Assumes nothing.
use Prim.Native.Nat.{ℕ, ◌≤◌}
use mathlib.Core.Path.{◌≡◌, ap, ◌∙◌}
use native.Mathlib.Omega.{arith}
use native.Mathlib.Numerals.{add-one}
use lib.ListN.{length}
use borrow.Author.Rules.{rules}
use Rattle.sets.specs.Words.{insert_if, collect}
use Rattle.sets.specs.Sets.{words, capacity, of_words}
use Rattle.posting.specs.Conflicts.{row}
use Rattle.site.specs.Sites.{sites}
use Rattle.site.specs.Steps.{owner_of}
use Rattle.soundness.specs.Parts.{finished_set}
use Rattle.soundness.proofs.Turns.{no_owner}
use Rattle.soundness.proofs.pool.finished_set.Invariants.{byOwner}
use Rattle.soundness.proofs.pool.finished_set.Goals as goal
use Rattle.soundness.proofs.pool.finished_set.Goals.{then-owner-lt-SITES, else-owner-lt-SITES}

pub loop-m-init : goal.loop-m-init
unfolding collect
loop-m-init c = c.empty-done.ensures

pub loop-m-preserved : goal.loop-m-preserved
unfolding collect insert_if row
loop-m-preserved c =
    let at = c.loop-m in
    let args = c.args in
    let long : length args.sites ≡ sites = search rules in
    elim c.if-owner-lt-SITES.branch [
      | then-owner-lt-SITES w ↦ rw (add-one, w.done-is, w.with_if-done.ensures, w.has.ensures, c.from-owner.ensures, at.invariant)
      | else-owner-lt-SITES w ↦
          let past : length args.sites ≤ owner_of args.table at.m = omega (arith, w.if-owner-lt-SITES.false, c.from-owner.ensures) in
          w.done-is ∙ at.invariant ∙ rw (add-one, no_owner args.table args.sites at.m past)
    ]

pub returns : goal.returns
unfolding finished_set
returns c =
    let at = c.loop-m in
    let args = c.args in
    let end : at.m ≡ capacity = omega arith in
    at.invariant ∙ ap (λ (n : ℕ). of_words (collect words (byOwner args.table args.sites) n)) end
