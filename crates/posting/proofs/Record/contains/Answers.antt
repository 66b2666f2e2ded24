-- `contains` meets its contract: what `any` tests of the first places is whether the number is listed.
-- Assumes nothing.
use mathlib.Core.Path.{◌∙◌}
use lib.Dec.{eqb}
use lib.ListN.{take}
use borrow.Author.Rules.{rules}
use Rattle.std.proofs.Common.{tests}
use Rattle.std.proofs.lemmas.Iterator.{YieldsList-from_slice, YieldsList-from_take}
use Rattle.std.proofs.lemmas.Iterator.Search.{any_from_yields_List}
use Rattle.sets.proofs.NumberLaws.{any_listed}
use Rattle.posting.specs.Records.{contains, numbers_of}
use Rattle.posting.proofs.Record.contains.Goals as goal

pub returns : goal.returns
unfolding contains numbers_of
returns c =
    let r = c.args.self in
    any_from_yields_List (eqb c.args.m) c.any.new.self _ _ c.any.ensures.ran
    (YieldsList-from_take {s = c.take.result} r.count (YieldsList-from_slice r.numbers (cc)) (cc)) (λ x b q k. search (rules, tests))
    ∙ any_listed c.args.m (take r.count r.numbers)
