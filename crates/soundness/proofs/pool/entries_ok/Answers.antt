-- `entries_ok` meets its contract. The loop's invariant: the first m postings pass.
-- Assumes nothing.
use mathlib.Core.Path.{◌≡◌, sym, ◌∙◌}
use native.Mathlib.Omega.{arith}
use borrow.Author.Rules.{rules}
use Rattle.sets.proofs.BelowLaws.{all_fails, all_none, all_more, all_end}
use Rattle.sets.specs.Sets.{capacity}
use Rattle.soundness.specs.Parts.{entries_sound}
use Rattle.soundness.proofs.pool.entries_ok.Invariants.{passes}
use Rattle.soundness.proofs.pool.entries_ok.Goals as goal
use Rattle.soundness.proofs.pool.entries_ok.Goals.{After-entry_ok}

tested : (c : After-entry_ok)
    → let args = c.args in
    c.entry_ok.result ≡ passes args.pool args.logged args.finished args.entries args.all c.loop-m.m
tested c =
    c.entry_ok.ensures
    ∙ rw (
      c.has.ensures,
      c.has-in-loop-m.ensures,
      c.has-in-loop-m-2.ensures,
      c.subset-within.ensures,
    )

pub loop-m-init : goal.loop-m-init
loop-m-init c = let args = c.args in all_none (passes args.pool args.logged args.finished args.entries args.all)

pub returns-then-not-entry_ok : goal.returns-then-not-entry_ok
unfolding entries_sound
returns-then-not-entry_ok c =
    let at = c.loop-m in
    let args = c.args in
    sym (all_fails (passes args.pool args.logged args.finished args.entries args.all) capacity at.m (search rules) (sym (tested (goal.at.returns-then-not-entry_ok c).After-entry_ok) ∙ c.if-not-entry_ok.true))

pub loop-m-preserved : goal.loop-m-preserved
loop-m-preserved c =
    let at = c.loop-m in
    let args = c.args in
    all_more (passes args.pool args.logged args.finished args.entries args.all) at.m at.invariant (sym (tested (goal.at.loop-m-preserved c).After-entry_ok) ∙ c.if-not-entry_ok.false)

pub returns : goal.returns
unfolding entries_sound
returns c =
    let at = c.loop-m in
    let args = c.args in
    sym (all_end (passes args.pool args.logged args.finished args.entries args.all) capacity at.m (omega arith) at.invariant)
