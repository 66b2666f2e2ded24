-- `subset` meets its contract: what `all` tests of the pairs is what the words say, list by list.
-- Assumes nothing.
use mathlib.Core.Path.{◌≡◌, refl, ap, ◌∙◌}
use mathlib.Core.Bool.{Bool, ◌&&◌}
use mathlib.Core.List.{List, [], ◌∷◌}
use Prim.Native.Nat.{ℕ}
use native.Mathlib.Omega.{arith}
use lib.Dec.{eqb}
use lib.ListN.{length}
use lib.Bits.{bit_and}
use borrow.Author.Rules.{rules}
use Rattle.std.proofs.Common.{tests}
use Rattle.std.specs.List.{list_all, zip}
use Rattle.std.proofs.lemmas.Iterator.{YieldsList-from_slice, YieldsList-from_zip}
use Rattle.std.proofs.lemmas.Iterator.Search.{all_from_yields_List}
use Rattle.sets.specs.Sets.{words}
use Rattle.sets.specs.Words.{is_subset}
use Rattle.sets.proofs.Set.subset.Goals as goal

subset_as_all : (ws vs : List ℕ) → length vs ≡ length ws → list_all (λ (p : ℕ × ℕ). eqb (bit_and p.0 p.1) p.0) (zip ws vs) ≡ is_subset ws vs
unfolding is_subset
subset_as_all [] vs e = refl
subset_as_all (w ∷ ws) [] e = absurd (omega arith)
subset_as_all (w ∷ ws) (v ∷ vs) e = ap (λ (b : Bool). eqb (bit_and w v) w && b) (subset_as_all ws vs (omega arith))

pub returns : goal.returns
returns c =
    let ws = c.args.self.words in
    let vs = c.args.t.words in
    let long : length ws ≡ words = search rules in
    let other : length vs ≡ words = search rules in
    all_from_yields_List (λ (p : ℕ × ℕ). eqb (bit_and p.0 p.1) p.0) c.all.new.self _ _ c.all.ensures.ran (YieldsList-from_zip {s = c.zip.result} (YieldsList-from_slice ws cc) (YieldsList-from_slice vs cc)) (λ x b q k. search (rules, tests)) ∙ subset_as_all ws vs (omega arith)
