-- `count_lacked` meets its contract.
-- Rests on Lists. Assumes nothing.
use Rattle.std.proofs.Common.{eqb, take, rules, tests, ◌∙◌}
use Rattle.std.proofs.lemmas.Iterator.{YieldsList-from_slice}
use Rattle.std.proofs.lemmas.Iterator.Consumers.{YieldsList-from_filter, count_from_yields_List}
use Rattle.std.proofs.lemmas.List.Sums.{length-filter}
use Rattle.audit_lacks.proofs.Lists.{count_first}
use Rattle.audit_lacks.proofs.count_lacked.Goals as goal

pub returns : goal.returns
returns c =
    let marks = c.args.marks.now in
    let xs = take c.args.bound marks in
    let n = count_from_yields_List c.filter.result c.count.result c.count.ensures.ran (YieldsList-from_filter _ (λ x. eqb x 1) (YieldsList-from_slice xs (cc)) c.filter.ensures.closure (λ x b q k. search (rules, tests))) in
    n ∙ length-filter (λ x. eqb x 1) xs ∙ count_first (λ x. eqb x 1) marks c.args.bound c.requires
