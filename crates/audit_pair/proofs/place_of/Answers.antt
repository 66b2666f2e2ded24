-- `place_of` meets its contract.
-- Rests on Places. Assumes nothing.
use Rattle.std.proofs.Common.{eqb, rules, tests, arith}
use Rattle.std.proofs.lemmas.Bool.Decides.{nat_tests}
use Rattle.std.proofs.lemmas.Iterator.{YieldsList-from_slice}
use Rattle.std.proofs.lemmas.Iterator.Search.{position_from_yields_List}
use Rattle.audit_pair.proofs.Places.{place_at_most, place_is}
use Rattle.audit_pair.proofs.place_of.Goals as goal

pub returns : goal.returns
returns c =
    let xs = c.args.lines.now in
    let p = position_from_yields_List (λ z. eqb z c.args.x) _ _ c.position.result c.position.ensures.ran (YieldsList-from_slice xs (cc)) (λ x b q k. search (rules, tests)) in
    let e = place_is c.args.x xs in
    let m = place_at_most c.args.x xs in
    grind (arith, nat_tests)
