-- `is_empty` meets its contract: what `all` tests is what the words say.
-- Assumes nothing.
use mathlib.Core.Path.{◌≡◌, refl, ap, ◌∙◌}
use mathlib.Core.Bool.{Bool, ◌&&◌}
use mathlib.Core.List.{List, [], ◌∷◌}
use Prim.Native.Nat.{ℕ}
use lib.Dec.{eqb}
use borrow.Author.Rules.{rules}
use Rattle.std.proofs.Common.{tests}
use Rattle.std.specs.List.{list_all}
use Rattle.std.proofs.lemmas.Iterator.{YieldsList-from_slice}
use Rattle.std.proofs.lemmas.Iterator.Search.{all_from_yields_List}
use Rattle.sets.specs.Words.{is_empty}
use Rattle.sets.proofs.Set.is_empty.Goals as goal

empty_as_all : (ws : List ℕ) → list_all (λ (w : ℕ). eqb w 0) ws ≡ is_empty ws
unfolding is_empty
empty_as_all [] = refl
empty_as_all (w ∷ ws) = ap (λ (b : Bool). eqb w 0 && b) (empty_as_all ws)

pub returns : goal.returns
returns c =
    let ws = c.args.self.words in
    all_from_yields_List (λ (w : ℕ). eqb w 0) _ _ _ c.all.ensures.ran (YieldsList-from_slice ws cc) (λ x b q k. search (rules, tests)) ∙ empty_as_all ws
