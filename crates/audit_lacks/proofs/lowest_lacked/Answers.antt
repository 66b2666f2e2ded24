-- `lowest_lacked` meets its contract.
-- Rests on Lists. Assumes nothing.
use Rattle.std.proofs.Common.{eqb, take, rules, tests}
use Rattle.std.proofs.lemmas.Iterator.{YieldsList-from_slice}
use Rattle.std.proofs.lemmas.Iterator.Search.{position_from_yields_List}
use Rattle.std.proofs.lemmas.List.{length-take-le}
use Rattle.audit_lacks.proofs.Lists.{lowest_first}
use Rattle.audit_lacks.proofs.lowest_lacked.Goals as goal

pub returns : goal.returns
returns c =
    let marks = c.args.marks.now in
    let xs = take c.args.bound marks in
    let e = position_from_yields_List (λ x. eqb x 1) _ _ c.position.result c.position.ensures.ran (YieldsList-from_slice xs (cc)) (λ x b q k. search (rules, tests)) in
    rw (lowest_first (λ x. eqb x 1) marks c.args.bound c.requires, length-take-le c.args.bound marks c.requires) at e
