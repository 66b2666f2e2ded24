-- `rows_ok` meets its contract.
-- Assumes nothing.
use Rattle.std.proofs.Common.{rules, tests, arith}
use mathlib.Core.Path.{◌∙◌}
use Prim.Native.Nat.{ℕ}
use Rattle.std.proofs.lemmas.Iterator.{YieldsList-from_range}
use Rattle.std.proofs.lemmas.Iterator.Search.{all_from_yields_List}
use Rattle.sets.proofs.BelowLaws.{all_range}
use Rattle.posting.specs.Kinds.{fields_ok}
use Rattle.by_bytes.specs.Bytes.{row_at, row_count, rows_ok}
use Rattle.by_bytes.proofs.bytes.rows_ok.Goals as goal

pub returns : goal.returns
unfolding rows_ok
returns c =
    let bytes = c.args.bytes.now in
    let test = λ (m : ℕ). fields_ok (row_at bytes m) in
    all_from_yields_List test c.all.new.self _ _ c.all.ensures.ran (YieldsList-from_range 0 (row_count bytes) (row_count bytes) (cc) (omega arith)) (λ x b q k. search (rules, tests)) ∙ all_range test (row_count bytes)
