-- `count_postings` meets its contract.
-- Rests on Lists. Assumes nothing.
use Rattle.std.proofs.Common.{◌≡◌, ℕ, ◌<◌, eqb, not, length, get_or, List, rules, tests, ◌∙◌}
use Rattle.std.proofs.lemmas.Iterator.{YieldsList-from_slice}
use Rattle.std.proofs.lemmas.Iterator.Consumers.{YieldsList-from_filter, count_from_yields_List}
use Rattle.std.proofs.lemmas.List.Sums.{length-filter}
use borrow.Author.Tests.{lt-leb}
use Rattle.sets.proofs.BelowLaws.{count_ext}
use Rattle.audit_input.specs.Input.{unused}
use Rattle.audit_lacks.proofs.Lists.{count_places}
use Rattle.audit_lacks.proofs.count_postings.Goals as goal

-- below the length a number is used if its kind says so
used : (kinds : List ℕ) (x : ℕ) → x < length kinds → not (eqb (get_or kinds x 0) 255) ≡ not (unused kinds x)
unfolding unused
used kinds x h = rw (lt-leb (length kinds) x h)

pub returns : goal.returns
returns c =
    let kinds = c.args.kinds.now in
    let n = count_from_yields_List c.filter.result c.count.result c.count.ensures.ran (YieldsList-from_filter _ (λ x. not (eqb x 255)) (YieldsList-from_slice kinds (cc)) c.filter.ensures.closure (λ x b q k. search (rules, tests))) in
    n ∙ length-filter (λ x. not (eqb x 255)) kinds ∙ count_places (λ x. not (eqb x 255)) kinds ∙ count_ext (λ x. not (eqb (get_or kinds x 0) 255)) (λ x. not (unused kinds x)) (length kinds) (used kinds)
