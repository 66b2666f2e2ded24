-- `each_ok` meets its contract.
-- Assumes nothing.
use Rattle.std.proofs.Common.{rules, tests, arith}
use mathlib.Core.Path.{◌∙◌}
use Prim.Native.Nat.{ℕ}
use Rattle.std.proofs.lemmas.Iterator.{YieldsList-from_range}
use Rattle.std.proofs.lemmas.Iterator.Search.{all_from_yields_List}
use Rattle.sets.proofs.BelowLaws.{all_range}
use Rattle.by_bytes.specs.Bytes.{site_record, site_count, record_ok, each_ok}
use Rattle.by_bytes.proofs.bytes.each_ok.Goals as goal

pub returns : goal.returns
unfolding each_ok
returns c =
    let bytes = c.args.bytes.now in
    let test = λ (s : ℕ). record_ok (site_record bytes s) c.args.n in
    all_from_yields_List test c.all.new.self _ _ c.all.ensures.ran (YieldsList-from_range 0 (site_count bytes) (site_count bytes) (cc) (omega arith)) (λ x b q k. search (rules, tests)) ∙ all_range test (site_count bytes)
