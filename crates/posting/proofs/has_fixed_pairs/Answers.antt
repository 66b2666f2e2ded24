-- `has_fixed_pairs` meets its contract.
-- Assumes nothing.
use Rattle.std.proofs.Common.{rules, tests}
use mathlib.Core.Path.{refl, sym, ◌∙◌}
use Prim.Native.Nat.{ℕ, ◌/◌, ◌%◌}
use Rattle.std.proofs.lemmas.Iterator.{YieldsList-from_range}
use Rattle.std.proofs.lemmas.Iterator.Search.{all_from_yields_List}
use Rattle.sets.proofs.BelowLaws.{all_range}
use Rattle.posting.specs.Kinds.{pair_ok, has_fixed_pairs}
use Rattle.posting.proofs.KindLaws.{pairs_entries}
use Rattle.posting.proofs.has_fixed_pairs.Goals as goal

pub returns : goal.returns
unfolding has_fixed_pairs
returns c =
    let test = λ (n : ℕ). pair_ok c.args.matrix (n / 4) (n % 4) in
    all_from_yields_List test c.all.new.self _ _ c.all.ensures.ran (YieldsList-from_range 0 16 16 (cc) refl) (λ x b q k. search (rules, tests)) ∙ all_range test 16 ∙ sym (pairs_entries (pair_ok c.args.matrix))
