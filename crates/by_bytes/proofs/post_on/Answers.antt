-- `post_on` meets its contract.
-- Assumes nothing.
-- the figures read, and the test of them
use mathlib.Core.List.{◌++◌}
use mathlib.Core.Path.{◌≡◌, sym, ap, ◌∙◌, subst⁻¹}
use lib.ListN.{drop}
use Rattle.books.specs.Bounds.{Room}
use Rattle.books.specs.Books.{four}
use Rattle.books.specs.declared.Figures.{Figures}
use Rattle.books.specs.Effect.{effect}
use Rattle.by_bytes.specs.Answers.{roomy, figures_at, after, posted_on}
use Rattle.by_bytes.proofs.Outcomes.{is_refused, is_done, has_room, read_figures, figures_read}
use Rattle.by_bytes.proofs.post_on.Goals as goal
use Rattle.by_bytes.proofs.post_on.Goals.{After-has_room, After-settled-1}

read : (c : After-settled-1) → let l = c.args.figures.now in read_figures l ≡ figures_at l
read c =
    let l = c.args.figures.now in
    figures_read l
    (record { sfits = c.position-1.given })
    (record { sfits = c.rate-1.given })
    (record { sfits = c.called-1.given })
    (record { sfits = c.settled-1.given })

tested : (c : After-has_room) → c.has_room.result ≡ roomy (figures_at c.args.figures.now)
tested c = c.has_room.ensures ∙ ap roomy (read c.before)

pub effect_on-t-requires : goal.effect_on-t-requires
effect_on-t-requires c =
    let l = c.args.figures.now in
    subst⁻¹ Room (read (goal.at.effect_on-t-requires c).After-settled-1) (has_room (figures_at l) (sym (tested (goal.at.effect_on-t-requires c).After-has_room) ∙ c.if-has_room.true))

pub returns-then-has_room : goal.returns-then-has_room
unfolding posted_on
returns-then-has_room c =
    let args = c.args in
    let l = args.figures.now in record {
      value = (is_done (roomy (figures_at l)) (after args.p args.account l) l
          (sym (tested (goal.at.returns-then-has_room c).After-has_room) ∙ c.if-has_room.true)
          (c.put.ensures
          ∙ ap (λ (t : Figures). four t ++ drop 4 l) (c.effect_on-t.ensures ∙ ap (effect args.p args.account) (read (goal.at.returns-then-has_room c).After-settled-1)))).0;
      figures_after = (is_done (roomy (figures_at l)) (after args.p args.account l) l
          (sym (tested (goal.at.returns-then-has_room c).After-has_room) ∙ c.if-has_room.true)
          (c.put.ensures
          ∙ ap (λ (t : Figures). four t ++ drop 4 l) (c.effect_on-t.ensures ∙ ap (effect args.p args.account) (read (goal.at.returns-then-has_room c).After-settled-1)))).1;
    }

pub returns : goal.returns
unfolding posted_on
returns c =
    let args = c.args in
    let l = args.figures.now in record { value = (is_refused (roomy (figures_at l)) (after args.p args.account l) l (sym (tested (goal.at.returns c).After-has_room) ∙ c.if-has_room.false)).0; figures_after = (is_refused (roomy (figures_at l)) (after args.p args.account l) l (sym (tested (goal.at.returns c).After-has_room) ∙ c.if-has_room.false)).1 }
