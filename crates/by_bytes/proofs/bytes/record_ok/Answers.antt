-- `record_ok` meets its contract.
-- Assumes nothing.
use Rattle.std.proofs.Common.{rules, tests, arith}
use mathlib.Core.Path.{◌≡◌, ◌∙◌}
use Prim.Native.Nat.{ℕ}
use lib.Dec.{ltb}
use lib.ListN.{length, take}
use borrow.Author.Tests.{le-leb}
use Rattle.std.proofs.lemmas.Iterator.{YieldsList-from_slice}
use Rattle.std.proofs.lemmas.Iterator.Search.{all_from_yields_List}
use Rattle.sets.specs.Sets.{capacity}
use Rattle.sets.proofs.BelowLaws.{all_taken}
use Rattle.by_bytes.specs.Bytes.{record_ok}
use Rattle.by_bytes.proofs.bytes.record_ok.Goals as goal

pub returns-then-delivered-le-POSTINGS : goal.returns-then-delivered-le-POSTINGS
unfolding record_ok
returns-then-delivered-le-POSTINGS c =
    let r = c.args.delivered in
    let long : length r.numbers ≡ capacity = search rules in
    let test = λ (m : ℕ). ltb m c.args.n in
    rw (le-leb r.count capacity (search rules))
    (all_from_yields_List test c.all.new.self _ _ c.all.ensures.ran (YieldsList-from_slice (take r.count r.numbers) (cc)) (λ x b q k. search (rules, tests)) ∙ all_taken test 0 r.count r.numbers (omega arith))

pub returns-else-delivered-le-POSTINGS : goal.returns-else-delivered-le-POSTINGS
unfolding record_ok
returns-else-delivered-le-POSTINGS c = search (tests, rules)
