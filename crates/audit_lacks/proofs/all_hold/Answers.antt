-- `all_hold` meets its contract.
-- Rests on Lists. Assumes nothing.
use Rattle.std.proofs.Common.{eqb, take, rules, tests, ◌∙◌}
use Rattle.std.proofs.lemmas.Iterator.{YieldsList-from_slice}
use Rattle.std.proofs.lemmas.Iterator.Search.{all_from_yields_List}
use Rattle.audit_lacks.proofs.Lists.{all_first}
use Rattle.audit_lacks.proofs.all_hold.Goals as goal

pub returns : goal.returns
returns c =
    let xs = take c.args.n c.args.counts.now in
    let e = all_from_yields_List (λ x. eqb x 0) _ _ c.all.result c.all.ensures.ran (YieldsList-from_slice xs (cc)) (λ x b q k. search (rules, tests)) in
    e ∙ all_first (λ x. eqb x 0) c.args.counts.now c.args.n c.requires
