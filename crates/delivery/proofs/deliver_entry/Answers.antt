-- `deliver_entry` meets its contract.
-- Assumes nothing.
use mathlib.Core.Path.{◌≡◌, refl, ap, ◌∙◌}
use mathlib.Core.List.{[], ◌∷◌, ◌++◌}
use native.Mathlib.Omega.{arith}
use lib.ListN.{length}
use Rattle.sets.specs.declared.Set.{Set}
use Rattle.sets.specs.Words.{members_below}
use Rattle.sets.specs.Sets.{words, members_of}
use Rattle.delivery.specs.Delivery.{laid_of, delivered_all, delivered_entry}
use Rattle.delivery.proofs.Walk.{entry_next, entry_end, rest_kept, whole}
use borrow.Author.Rules.{rules}
use Rattle.delivery.proofs.deliver_entry.Goals as goal

pub loop-k-init : goal.loop-k-init
unfolding delivered_all members_below
loop-k-init c = record { within = search rules; delivered = refl; rest = refl }

pub loop-k-preserved : goal.loop-k-preserved
loop-k-preserved c =
    let at = c.loop-k in
    let s = c.load-carried.result in
    record {
      within = search rules;
      delivered = entry_next (laid_of c.args.board.now) (laid_of at.board) c.args.p s.words at.k at.invariant.delivered _ (ap laid_of c.deliver_word.ensures);
      rest = rest_kept c.args.board.now at.board at.invariant.rest _ _ c.deliver_word.ensures;
    }

pub returns : goal.returns
unfolding delivered_entry
returns c =
    let at = c.loop-k in
    let carried = c.load-carried in
    let a = c.args in
    let first = laid_of a.board.now in
    let long : length carried.result.words ≡ words = search rules in
    let last = c.deliver.new.board in
    let rest = rest_kept a.board.now at.board at.invariant.rest last _ c.deliver.ensures in
    whole a.board.now last rest _
    (entry_end first (laid_of at.board) a.p carried.result.words at.k at.invariant.delivered a.m _ (omega (arith, long)) (ap laid_of c.deliver.ensures)
    ∙ ap (λ (v : Set). delivered_all first a.p (members_of v ++ (a.m ∷ []))) carried.ensures)
