-- `tallies_ok` meets its contract. The loop's invariant: the first m tallies pass.
-- Assumes nothing.
use Prim.Native.Nat.{ℕ}
use mathlib.Core.Path.{◌≡◌}
use mathlib.Core.Bool.{Bool, true}
use mathlib.Core.List.{List}
use lib.ListN.{get_or}
use Rattle.sets.specs.declared.Set.{Set}
use Rattle.sets.specs.Below.{all_below}
use Rattle.site.specs.declared.Tally.{Tally}
use Rattle.site.specs.Sites.{no_tally}
use Rattle.soundness.specs.Parts.{tally_sound}
use Rattle.soundness.proofs.sites.tallies_ok.Given as goal

abbrev pub passes : ℕ → ℕ → Set → List Tally → ℕ → Bool
passes n count all tallies m = tally_sound n count all m (get_or tallies m no_tally)

abbrev pub invariant-loop-m : goal.invariant-loop-m
invariant-loop-m l = all_below (passes l.n l.count l.all l.fn.tallies) l.m ≡ true
