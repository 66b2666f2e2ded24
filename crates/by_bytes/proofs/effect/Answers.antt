-- `effect` meets its contract.
-- Assumes nothing.
use Prim.Native.Nat.{ℕ, ◌≤◌}
use mathlib.Core.List.{List}
use mathlib.Core.Bool.{true, false}
use mathlib.Core.Path.{◌≡◌, sym, ap, ◌∙◌}
use lib.IntN.{ℤ}
use lib.ListN.{length}
use borrow.Author.Tests.{le-leb, lt-leb}
use Rattle.posting.specs.declared.Posting.{Posting}
use Rattle.posting.specs.Kinds.{fields_ok}
use Rattle.by_bytes.specs.Answers.{answer, posting_of, roomy, figures_at, after, posted_on, effect_ok, effect_out}
use Rattle.by_bytes.proofs.Outcomes.{is_refused}
use Rattle.by_bytes.proofs.effect.Goals as goal

no : (p : Posting) (account : ℕ) (l : List ℤ) → effect_ok p l ≡ false → (255 ≡ answer (effect_ok p l)) × (l ≡ effect_out p account l)
unfolding effect_out
no p account l = is_refused (effect_ok p l) (after p account l) l

-- only the room is left to test
passed : (p : Posting) (l : List ℤ) → 4 ≤ length l → fields_ok p ≡ true → effect_ok p l ≡ roomy (figures_at l)
unfolding effect_ok
passed p l h t = rw (le-leb 4 (length l) h, t)

pub returns-then-figures-lt4 : goal.returns-then-figures-lt4
unfolding effect_ok
returns-then-figures-lt4 c =
    let args = c.args in
    let l = args.figures.now in let shown = no (posting_of args.kind args.a args.b args.amount) args.account l (rw (lt-leb 4 (length l) c.if-figures-lt4.true)) in record { value = shown.0; figures_after = shown.1 }

pub returns-then-fields_ok : goal.returns-then-fields_ok
unfolding effect_out posted_on
returns-then-fields_ok c =
    let args = c.args in
    let l = args.figures.now in record { value = rw (passed (posting_of args.kind args.a args.b args.amount) l c.if-figures-lt4.false (sym (c.fields_ok.ensures ∙ ap fields_ok c.posting_of-p.ensures) ∙ c.if-fields_ok.true)) c.post_on.ensures.value; figures_after = rw (passed (posting_of args.kind args.a args.b args.amount) l c.if-figures-lt4.false (sym (c.fields_ok.ensures ∙ ap fields_ok c.posting_of-p.ensures) ∙ c.if-fields_ok.true)) (rw c.posting_of-p.ensures at c.post_on.ensures.figures_after) }

pub returns : goal.returns
unfolding effect_ok
returns c =
    let args = c.args in
    let l = args.figures.now in let shown = no (posting_of args.kind args.a args.b args.amount) args.account l
    (rw (le-leb 4 (length l) c.if-figures-lt4.false, sym (c.fields_ok.ensures ∙ ap fields_ok c.posting_of-p.ensures) ∙ c.if-fields_ok.false)) in record { value = shown.0; figures_after = shown.1 }
